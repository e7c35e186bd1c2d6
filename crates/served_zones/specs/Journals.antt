-- The journals of zones that are served.
use Rattle.std.specs.Prelude.{◌≡◌, ◌≢◌, ◌∷◌, [], Some}
use Rattle.either.specs.declared.Either.TheVariants.{Left, Right}
use Rattle.sqlite_disk.specs.declared.Disk.{Ghosts as DiskGhosts}
use Rattle.wire_names.specs.rr.domain.DomainName.{DomainName}
use Rattle.hickory_catalog.specs.zones.Find.{Finds}
use Rattle.hickory_catalog.specs.zones.Zones.{HasZone, ZoneChains}
use Rattle.served_zones.specs.ServedZones.{Chain, ServedHandler}
use Rattle.served_zones.specs.ZoneChanges.{ChainChanges, IsFirst}
use Rattle.zones.specs.Journals.{IsOpened, IsStopped}

-- The first handler of a chain is a zone that has rules, by which it takes updates.
abbrev pub HasRules : Chain → Type 0
HasRules [] = ⊥
HasRules (Left zone ∷ rest) = zone.policy ≢ []
HasRules (Right list ∷ rest) = ⊥

-- There is a zone of this apex, and it takes updates.
abbrev pub TakesUpdates : ZoneChains ServedHandler → DomainName → Type 0
TakesUpdates zones apex = HasZone zones apex × (chain : Chain) × Finds zones apex (Some chain) × HasRules chain

module _ {D : Type 0} (disks : DiskGhosts D) (first second : D) where
  -- A handler is a zone that has rules, and has the journal in these two files from then on.
  abbrev pub HandlerOpens : ServedHandler → ServedHandler → Type 0
  HandlerOpens (Left old) (Left new) = (old.policy ≢ []) × IsOpened disks first second old new
  HandlerOpens old new = ⊥

  -- The zone of this apex does so.
  abbrev pub OpensJournal : DomainName → ZoneChains ServedHandler → ZoneChains ServedHandler → Type 0
  OpensJournal = ChainChanges (IsFirst HandlerOpens)

  -- A handler is a zone that has rules. It is as the journal in these files says from then on, and takes no updates.
  abbrev pub HandlerIsStopped : ServedHandler → ServedHandler → Type 0
  HandlerIsStopped (Left old) (Left new) = (old.policy ≢ []) × IsStopped disks first second old new
  HandlerIsStopped old new = ⊥

  -- The zone of this apex is so.
  abbrev pub StopsAtOpening : DomainName → ZoneChains ServedHandler → ZoneChains ServedHandler → Type 0
  StopsAtOpening = ChainChanges (IsFirst HandlerIsStopped)
