-- How the zone of a name is searched for. In the order of names all that a name encloses stands together, right behind
-- it (RFC 4034, section 6.1). So the last zone up to a name answers for it, or stands beside it: then only zones above
-- both may.
use Rattle.std.specs.Prelude.{◌<◌, List, length, Option, Some, None}
use Rattle.std.specs.List.{All, Contains}
use Rattle.std.specs.BTreeMap.Range.{IsLeBy}
use Rattle.wire_names.specs.rr.domain.DomainName.{DomainName}
use Rattle.wire_names.specs.rr.domain.NameOrder.{Encloses, name_cmp}
use Rattle.hickory_catalog.specs.zones.Find.{MayAnswer}

-- The zone is the last of those whose apex is the name or stands before it.
pub record IsLastUpTo {V : Type 0} (zones : List (DomainName × V)) (name : DomainName) (zone : DomainName × V) : Type 0 where
  pub among : Contains zones zone
  pub up_to : IsLeBy name_cmp zone.0 name
  pub last : All (λ other. IsLeBy name_cmp other.0 name → IsLeBy name_cmp other.0 zone.0) zones

-- That zone, or `None` where all zones stand behind the name.
abbrev pub LastUpTo : {V : Type 0} → List (DomainName × V) → DomainName → Option (DomainName × V) → Type 0
LastUpTo zones name None = All (λ zone. ¬ (IsLeBy name_cmp zone.0 name)) zones
LastUpTo zones name (Some zone) = IsLastUpTo zones name zone

-- Each zone that may answer for the name has fewer labels than it, and encloses the other name as well.
abbrev pub AnswerFromAbove : {V : Type 0} → List (DomainName × V) → DomainName → DomainName → Type 0
AnswerFromAbove zones name other = All (λ zone. MayAnswer zone.0 name → (length zone.0.labels < length name.labels) × Encloses zone.0.labels other.labels) zones
