-- The journals of zones that take updates.
use Rattle.std.specs.Prelude.{◌≡◌, ◌++◌, ◌∷◌, [], List, map}
use Rattle.sqlite_disk.specs.declared.Disk.{Ghosts as DiskGhosts}
use Rattle.wire_names.specs.rr.domain.DomainName.{DomainName}
use Rattle.wire_names.specs.rr.domain.NameOrder.{lower_name}
use Rattle.served_zones.specs.Journals.{OpensJournal}
use Rattle.served_zones.specs.ServedZones.{Chain, IsApexText}
use Rattle.serve_options.specs.declared.arguments.ZoneArgument.{ZoneArgument}
use Rattle.zone_serve.specs.declared.journals.Journalled.{Journalled}

-- the apexes of zones with journals
abbrev pub apexes_of : List Journalled → List DomainName
apexes_of journals = map (λ (journal : Journalled). journal.apex) journals

module _ {D : Type 0} (disks : DiskGhosts D) where
  -- The zone of this apex is the one that some journal in two files makes of it, and has this journal from then on.
  abbrev pub HasOpened : DomainName → List (DomainName × Chain) → List (DomainName × Chain) → Type 0
  HasOpened apex old new = (first : D) × (second : D) × OpensJournal disks first second apex old new

  -- So is the zone that an argument names. Its apex is this one, in lower case.
  abbrev pub IsJournalledBy : ZoneArgument → DomainName → List (DomainName × Chain) → List (DomainName × Chain) → Type 0
  IsJournalledBy argument lower old new = (apex : DomainName) × IsApexText argument.name.now apex × (lower ≡ lower_name apex) × HasOpened lower old new

  -- So are those of all arguments, one after the other in this order. Their apexes are these, in lower case.
  pub data AreJournalled : List ZoneArgument → List DomainName → List (DomainName × Chain) → List (DomainName × Chain) → Type 0 where
    none : {zones : List (DomainName × Chain)} → AreJournalled [] [] zones zones
    more : {those : List ZoneArgument} {apexes : List DomainName} {old between new : List (DomainName × Chain)} (argument : ZoneArgument) (apex : DomainName)
        → AreJournalled those apexes old between → IsJournalledBy argument apex between new → AreJournalled (those ++ argument ∷ []) (apexes ++ apex ∷ []) old new
