-- What the catalog has that arguments ask for. Which bytes the files of these names have is a relation of names and bytes:
-- no contract can say what a disk holds.
use Rattle.std.specs.Prelude.{◌≡◌, ◌≢◌, ◌∷◌, ◌<◌, ◌++◌, [], ℕ, List, Option, Some, None}
use Rattle.std.specs.List.{AllZip}
use Rattle.wire_names.specs.rr.domain.DomainName.{DomainName}
use Rattle.hickory_base.specs.zone_store.ZoneAnswers.{MemoryZone}
use Rattle.hickory_store.specs.blocklist.BlockAnswers.{Blocklist}
use Rattle.name_lists.specs.Adding.{AddsList}
use Rattle.name_lists.specs.Counts.{Counts}
use Rattle.server_limits.specs.Access.{Network}
use Rattle.served_zones.specs.Grants.{IsGrantOf}
use Rattle.served_zones.specs.ServedZones.{AddsLists, Chain, IsEmptyList, IsLoadedAs, IsZoneOfFiles}
use Rattle.served_zones.specs.declared.grants.Grant.{Grant}
use Rattle.tsig.specs.declared.keys.Key.{Key}
use Rattle.served_keys.specs.ServedKeys.{AreKeysOfFile, all_networks}
use Rattle.server.specs.Updates.{AreServed}
use Rattle.serve_options.specs.Arguments.{files_of}
use Rattle.serve_options.specs.declared.arguments.Settings.{Settings}
use Rattle.serve_options.specs.declared.arguments.UpdateArgument.{UpdateArgument}
use Rattle.serve_options.specs.declared.arguments.ZoneArgument.{ZoneArgument}

-- The value of `--allow-update` is a rule of a zone. Its key is one of these.
abbrev pub IsGrantBy : List Key → UpdateArgument → Grant → Type 0
IsGrantBy keys argument grant = IsGrantOf keys argument.zone.now argument.rule.now grant

module _ (opens : List ℕ → List ℕ → Type 0) where
  -- The list in the file of this name is put on a list of blocked names. It gives a name.
  pub record AddsFile (file : List ℕ) (old new : Blocklist) : Type 0 where
    pub text : List ℕ
    pub opened : opens file text
    pub counts : Counts
    pub adds : AddsList text old.entries new.entries counts
    pub some : 0 < counts.taken
    pub others : new ≡ record old { entries = new.entries }

  -- So are the lists in the files of these names, one after the other.
  abbrev pub AddsFiles : List (List ℕ) → Blocklist → Blocklist → Type 0
  AddsFiles files old new = (texts : List (List ℕ)) × AllZip opens files texts × AddsLists texts old new

  -- The list of blocked names of these files: there is none if there is no file, else it has the names of all.
  abbrev pub IsListOf : List (List ℕ) → Option Blocklist → Type 0
  IsListOf files None = files ≡ []
  IsListOf files (Some list) = (files ≢ []) × (empty : Blocklist) × IsEmptyList empty × AddsFiles files empty list

  -- The zone is that of the file of this name, with the files that it includes.
  abbrev pub IsZoneAt : List ℕ → DomainName → MemoryZone → Type 0
  IsZoneAt file apex zone = (text : List ℕ) × opens file text × IsZoneOfFiles opens text apex zone

  -- The zones of these arguments are loaded, one after the other in this order; the list of blocked names, if there is
  -- one, is asked after each.
  pub data AreLoaded (list : Option Blocklist) : List ZoneArgument → List DomainName → List (DomainName × Chain) → List (DomainName × Chain) → Type 0 where
    none : {zones : List (DomainName × Chain)} → AreLoaded list [] [] zones zones
    more : {arguments : List ZoneArgument} {apexes : List DomainName} {apex : DomainName} {old between new : List (DomainName × Chain)} (argument : ZoneArgument)
        → AreLoaded list arguments apexes old between → IsLoadedAs (IsZoneAt argument.file.now) argument.name.now list apex between new
        → AreLoaded list (arguments ++ argument ∷ []) (apexes ++ apex ∷ []) old new

  -- The zones that the arguments ask for are loaded, in the order of the arguments. After each is the list of blocked
  -- names, which has those of all files with lists. Then each zone that has rules takes the updates that they grant to
  -- the keys. Each rule is of one of the zones.
  pub record AreZonesOf (settings : Settings) (keys : List Key) (old new : List (DomainName × Chain)) : Type 0 where
    pub list : Option Blocklist
    pub list_is : IsListOf (files_of settings) list
    pub apexes : List DomainName
    pub loaded : List (DomainName × Chain)
    pub are_loaded : AreLoaded list settings.zones.items apexes old loaded
    pub grants : List Grant
    pub are_grants : AllZip (IsGrantBy keys) settings.updates.items grants
    pub are_served : AreServed keys grants apexes loaded new

  -- The keys: none if there is no file of keys, else those of the file of this name.
  abbrev pub AreKeysOf : Option (List ℕ) → List Key → Type 0
  AreKeysOf None keys = keys ≡ []
  AreKeysOf (Some file) keys = (text : List ℕ) × opens file text × AreKeysOfFile text keys

-- The networks that may not use a server that allows some networks and denies others: those that it denies; and all, if
-- it allows one. What is allowed with a longer prefix may use it nevertheless.
abbrev pub denied_beside : List Network → List Network → List Network
denied_beside [] denied = denied
denied_beside (network ∷ allowed) denied = denied ++ all_networks
