-- Zones by name: a list of zone apexes, each with what is kept for its zone, in the order of names.
use Rattle.std.specs.Prelude.{◌≡◌, List, ◌++◌, Option, option_map}
use Rattle.std.specs.Option.{option_to_list}
use Rattle.std.specs.List.{All, Any}
use Rattle.std.specs.List.Sorted.{IsStrictlySortedBy}
use Rattle.std.specs.Map.{keys_of}
use Rattle.std.specs.declared.cmp.Ordering.TheVariants.{Less}
use Rattle.wire_names.specs.rr.domain.DomainName.{DomainName}
use Rattle.wire_names.specs.rr.domain.NameOrder.{SameName, name_cmp}

-- the zones of a server: apexes, each with the chain of its zone's handlers
abbrev pub ZoneChains : Type 0 → Type 0
ZoneChains H = List (DomainName × List H)

-- The apexes ascend, so no two of them are the same name.
abbrev pub AreInOrder : {V : Type 0} → List (DomainName × V) → Type 0
AreInOrder zones = IsStrictlySortedBy name_cmp (keys_of zones)

-- Some zone has the name as its apex.
abbrev pub HasZone : {V : Type 0} → List (DomainName × V) → DomainName → Type 0
HasZone zones name = Any (λ zone. SameName zone.0 name) zones

-- zones, then the one of this apex, if anything is kept for it, then other zones
abbrev pub zones_around : {V : Type 0} → List (DomainName × V) → DomainName → Option V → List (DomainName × V) → List (DomainName × V)
zones_around {V} lesser apex value greater = lesser ++ (option_to_list (option_map (λ (v : V). (apex, v)) value) ++ greater)

-- Two lists of zones differ at a name alone. What is kept for it is `was` in the old one and `is` in the new one,
-- `None` for no such zone. The zones of lesser names stand before it in both, and those of greater names behind it, all
-- as they were.
pub record ChangesAt {V : Type 0} (old : List (DomainName × V)) (name : DomainName) (was is : Option V) (new : List (DomainName × V)) : Type 0 where
  pub lesser : List (DomainName × V)
  pub greater : List (DomainName × V)
  pub apex : DomainName
  pub same : SameName apex name
  pub before : old ≡ zones_around lesser apex was greater
  pub after : new ≡ zones_around lesser apex is greater
  pub below : All (λ zone. name_cmp zone.0 name ≡ Less) lesser
  pub above : All (λ zone. name_cmp name zone.0 ≡ Less) greater
