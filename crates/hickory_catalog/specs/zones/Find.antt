-- Which zone answers for a name: "the zone which is the nearest ancestor to QNAME" (RFC 1034, section 4.3.2, step 2).
use Rattle.std.specs.Prelude.{◌≡◌, ◌≤◌, List, length, Option, Some, None, true}
use Rattle.std.specs.Bool.{MatchBool}
use Rattle.std.specs.List.{All, Contains}
use Rattle.wire_names.specs.rr.domain.DomainName.{DomainName}
use Rattle.wire_names.specs.rr.domain.NameOrder.{SameName, Encloses}
use Rattle.hickory_catalog.specs.zones.Zones.{AreInOrder}

-- A zone of this apex may answer for the name. For a fully qualified name the apex is fully qualified and equals or
-- encloses it; for another name the apex is the same name. Letter case does not matter.
abbrev pub MayAnswer : DomainName → DomainName → Type 0
MayAnswer apex name = MatchBool name.is_fqdn ((apex.is_fqdn ≡ true) × Encloses apex.labels name.labels) (SameName apex name)

-- The zone may answer for the name, and no zone that may has an apex of more labels.
pub record IsNearest {V : Type 0} (zones : List (DomainName × V)) (name : DomainName) (zone : DomainName × V) : Type 0 where
  pub among : Contains zones zone
  pub may_answer : MayAnswer zone.0 name
  pub longest : All (λ other. MayAnswer other.0 name → length other.0.labels ≤ length zone.0.labels) zones

-- What is kept for the zone that answers for the name, or `None` where no zone may answer.
abbrev pub Finds : {V : Type 0} → List (DomainName × V) → DomainName → Option V → Type 0
Finds zones name None = All (λ zone. ¬ (MayAnswer zone.0 name)) zones
Finds zones name (Some value) = (apex : DomainName) × IsNearest zones name (apex, value)

-- Zones in order give a name at most one answer.
abbrev pub OneAnswers : Type 0 → Type 0
OneAnswers V = (zones : List (DomainName × V)) (name : DomainName) (one other : Option V) → AreInOrder zones → Finds zones name one → Finds zones name other → one ≡ other

-- Of zones in order one at most is the nearest to a name.
abbrev pub OneNearest : Type 0 → Type 0
OneNearest V = (zones : List (DomainName × V)) (name : DomainName) (one other : DomainName × V) → AreInOrder zones → IsNearest zones name one → IsNearest zones name other → one ≡ other

-- Names that differ in letter case alone have the same answer.
abbrev pub CaseDoesNotMatter : Type 0 → Type 0
CaseDoesNotMatter V = (zones : List (DomainName × V)) (name other : DomainName) (found : Option V) → SameName name other → Finds zones name found → Finds zones other found
