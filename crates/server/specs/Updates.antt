-- Which zones take updates, and by which keys and rules.
use Rattle.std.specs.Prelude.{◌+◌, ℕ, All, Bool, IsTrue, List, not, position}
use Rattle.std.specs.List.{list_any}
use Rattle.std.specs.Option.{option_map_or}
use Rattle.tsig.specs.declared.keys.Key.{Key}
use Rattle.wire_names.specs.rr.domain.DomainName.{DomainName}
use Rattle.wire_names.specs.rr.domain.NameOrder.{name_eq}
use Rattle.served_zones.specs.Given.{AreGiven}
use Rattle.served_zones.specs.ServedZones.{Chain}
use Rattle.served_zones.specs.declared.grants.Grant.{Grant}

-- a zone of this name was added, letter case aside
abbrev pub is_added : List DomainName → DomainName → Bool
is_added apexes apex = list_any (λ it. name_eq it apex) apexes

-- Each rule is of a zone that was added.
abbrev pub AreOfZones : List Grant → List DomainName → Type 0
AreOfZones grants apexes = All (λ grant. IsTrue (is_added apexes grant.apex)) grants

-- the number of the first rule that is of no zone that was added, from 1; 0 if there is none
abbrev pub number_of_none : List Grant → List DomainName → ℕ
number_of_none grants apexes = option_map_or (λ place. place + 1) (position (λ grant. not (is_added apexes grant.apex)) grants) 0

-- Each rule is of one of the zones of these apexes, which were added. Those that have rules take the updates that their
-- rules grant to the keys.
pub record AreServed (keys : List Key) (grants : List Grant) (apexes : List DomainName) (old new : List (DomainName × Chain)) : Type 0 where
  pub of_zones : AreOfZones grants apexes
  pub are_given : AreGiven keys grants apexes old new
