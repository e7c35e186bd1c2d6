-- The files of journals whose owner does to them what is noted there.
use Rattle.std.specs.Prelude.{◌≡◌, ◌∷◌, [], IfSome, Option, Some, None, is_some}
use Rattle.either.specs.declared.Either.TheVariants.{Left, Right}
use Rattle.sqlite_disk.specs.declared.Disk.{Ghosts as DiskGhosts}
use Rattle.wire_names.specs.rr.domain.DomainName.{DomainName}
use Rattle.hickory_catalog.specs.zones.Find.{Finds}
use Rattle.hickory_catalog.specs.zones.Zones.{ZoneChains}
use Rattle.durable_updates.specs.Holding.{AreFilesOf}
use Rattle.served_zones.specs.ServedZones.{Chain, ServedHandler}
use Rattle.served_zones.specs.ZoneChanges.{ZoneChanges}

module _ {D : Type 0} (disks : DiskGhosts D) where
  -- The files of the journal of the first handler of a chain: the one that the journal is in, and the one that it may be
  -- compacted into. None if the handler has no journal.
  abbrev pub AreFilesIn : Chain → Option (D × Option D) → Type 0
  AreFilesIn [] files = files ≡ None
  AreFilesIn (Right list ∷ rest) files = files ≡ None
  AreFilesIn (Left zone ∷ rest) files =
      (is_some files ≡ zone.is_journalled) × IfSome files (λ both. AreFilesOf disks zone.holds zone.updatable.zone both.0 both.1)

  -- Those of the chain that answers for a name, if there is one.
  abbrev pub AreFilesOfFound : Option Chain → Option (D × Option D) → Type 0
  AreFilesOfFound None files = files ≡ None
  AreFilesOfFound (Some chain) files = AreFilesIn chain files

  abbrev pub AreFilesAt : ZoneChains ServedHandler → DomainName → Option (D × Option D) → Type 0
  AreFilesAt zones name files = (found : Option Chain) × Finds zones name found × AreFilesOfFound found files

-- A handler that is a zone has no rules from then on, so it takes no updates, and all else of it is as it was; a list of
-- blocked names remains.
abbrev pub HandlerStops : ServedHandler → ServedHandler → Type 0
HandlerStops (Left zone) new = new ≡ Left (record zone { policy = [] })
HandlerStops (Right list) new = new ≡ Right list

-- The zone of this apex takes no updates from then on.
abbrev pub Stops : DomainName → ZoneChains ServedHandler → ZoneChains ServedHandler → Type 0
Stops = ZoneChanges HandlerStops
