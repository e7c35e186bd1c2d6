-- Which records of a zone may be updated under which key, by the rules of a policy.
use Rattle.std.specs.Prelude.{ℕ, Bool, IsTrue, not, ◌||◌, ◌&&◌, ◌==◌, ◌⊎◌, List, [], ◌∷◌}
use Rattle.std.specs.List.{AllByRecursion, list_any}
use Rattle.wire_messages.specs.Numbers.{type_any, type_ns, type_nsec, type_nsec3, type_rrsig, type_soa}
use Rattle.wire_names.specs.rr.domain.DomainName.{DomainName}
use Rattle.wire_names.specs.rr.domain.NameOrder.{Encloses, name_eq}
use Rattle.wire_messages.specs.rr.RecordData.{type_of}
use Rattle.wire_messages.specs.declared.rr.rdata.RData.{RData}
use Rattle.wire_messages.specs.declared.rr.record.Record.{Record}
use Rattle.update_policy.specs.declared.policy.Rule.{Rule}
use Rattle.update_policy.specs.declared.policy.Scope.{Scope}
use Rattle.update_policy.specs.declared.policy.Scope.TheVariants.{Zone, Subdomain, OneName, OwnName}

-- The names that a rule is for: all of the zone; a name and all below it; one name; the name that the key has.
abbrev pub IsInScope : Scope → DomainName → DomainName → Type 0
IsInScope Zone key name = Unit {0}
IsInScope (Subdomain base) key name = Encloses base.labels name.labels
IsInScope (OneName base) key name = IsTrue (name_eq base name)
IsInScope OwnName key name = IsTrue (name_eq key name)

-- The types that a rule without types is for: all but RRSIG, NS, SOA, NSEC and NSEC3; and but ANY, by which an update
-- deletes all sets of a name at once (RFC 2136 section 2.5.3).
abbrev pub is_ordinary : ℕ → Bool
is_ordinary kind = not (kind == type_rrsig || kind == type_ns || kind == type_soa || kind == type_nsec || kind == type_nsec3 || kind == type_any)

-- A listed type is for itself, and ANY for every type but NSEC and NSEC3.
abbrev pub is_listed : ℕ → ℕ → Bool
is_listed kind listed = listed == kind || (listed == type_any && not (kind == type_nsec || kind == type_nsec3))

-- the types that a rule is for
abbrev pub is_of_types : List ℕ → ℕ → Bool
is_of_types [] kind = is_ordinary kind
is_of_types (listed ∷ others) kind = list_any (is_listed kind) (listed ∷ others)

-- The rule is for this key, and for records of this name and type, which lie in the zone.
pub record Grants (rule : Rule) (key zone name : DomainName) (kind : ℕ) : Type 0 where
  pub same_key : IsTrue (name_eq rule.key key)
  pub in_zone : Encloses zone.labels name.labels
  pub in_scope : IsInScope rule.scope key name
  pub of_types : IsTrue (is_of_types rule.types kind)

-- Some rule of the policy is.
abbrev pub IsGranted : List Rule → DomainName → DomainName → DomainName → ℕ → Type 0
IsGranted [] key zone name kind = ⊥
IsGranted (rule ∷ rules) key zone name kind = Grants rule key zone name kind ⊎ IsGranted rules key zone name kind

-- Each record of an update section is granted by its name and its type (RFC 2136 section 2.5), whichever class it has.
abbrev pub AreGranted : List Rule → DomainName → DomainName → List (Record RData) → Type 0
AreGranted rules key zone records = AllByRecursion (λ r. IsGranted rules key zone r.name (type_of r.rdata)) records
