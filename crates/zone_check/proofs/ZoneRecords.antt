-- The records of a zone of which nothing is found.
use Rattle.std.proofs.Common.{◌≡◌, ◌==◌, ◌&&◌, ℕ, List, [], ◌∷◌, length, Option, Some, refl, sym, ap, subst, inl, inr, ◌∙◌, arith}
use Rattle.std.specs.Prelude.{◌⊎◌, MatchOption, is_some}
use Rattle.std.specs.List.{Contains, slice_get}
use Rattle.std.proofs.lemmas.Option.{slice_get_read}
use Rattle.std.proofs.lemmas.List.Elements.{Contains-append_right}
use Rattle.wire_names.specs.rr.domain.DomainName.{DomainName}
use Rattle.wire_names.specs.rr.domain.NameOrder.{SameName, name_eq}
use Rattle.wire_names.specs.representation.NameHash.{same_from_eq}
use Rattle.wire_names.proofs.lemmas.rr.domain.SameNames.{eq_from_same}
use Rattle.wire_messages.specs.rr.RecordData.{type_of}
use Rattle.wire_messages.specs.declared.rr.rdata.RData.{RData}
use Rattle.wire_messages.specs.declared.rr.record.Record.{Record}
use Rattle.zone_check.proofs.ChainOwners.{and_both, equal_numbers, find_in, finds, same_number, true_or}
use Rattle.zone_check.specs.ChainedZones.{IsFaultless}
use Rattle.zone_check.specs.CheckedZones.{CheckedZone, Owns, first_of, is_of}
use Rattle.zone_check.specs.Findings.{IsFoundOf}
use Rattle.zone_check.specs.declared.finding.Kind.{Kind}
use Rattle.zone_denials.proofs.lemmas.Members.{head_or_in}

pub in_or : (types : List ℕ) (t : ℕ) → Contains types t ⊎ ¬ (Contains types t)
in_or [] t = inr (λ x. absurd (omega (arith, x.1)))
in_or (u ∷ types) t = elim (true_or (u == t)) [
  | inl e ↦ let r : Contains (u ∷ types) t = (0, omega arith, same_number u t e) in inl r
  | inr fails ↦ elim (in_or types t) [
    | inl x ↦ inl (Contains-append_right (u ∷ []) types t x)
    | inr none ↦ inr (λ x. elim (head_or_in u types t x) [ inl e ↦ fails (equal_numbers u t e) | inr more ↦ none more ])
  ]
]

-- a record of the name and type
pub record Owned (zone : CheckedZone) (name : DomainName) (t : ℕ) : Type 0 where
  pub it : Record RData
  pub held : Contains zone.records it
  pub named : SameName it.name name
  pub typed : type_of it.rdata ≡ t
  pub is : first_of zone name t ≡ Some it

module _ (zone : CheckedZone) where
  at_place : (r : Record RData) (x : Contains zone.records r) → slice_get zone.records x.0 ≡ Some r
  at_place r x = slice_get_read zone.records (length zone.records) x.0 r refl x.1 (sym x.2)

  pub unfound : (kinds : List Kind) → IsFaultless kinds zone → (k : Kind) → Contains kinds k → (r : Record RData) (x : Contains zone.records r) → ¬ (IsFoundOf k zone x.0 r)
  unfound kinds f k among r x h = f.none x.0 k among (subst (λ (o : Option (Record RData)). MatchOption o ⊥ (IsFoundOf k zone x.0)) (sym (at_place r x)) h)

  pub owns_or : (name : DomainName) (t : ℕ) → Owns zone name t ⊎ ¬ (Owns zone name t)
  owns_or name t = true_or (is_some (first_of zone name t))

  pub owned : (name : DomainName) (t : ℕ) → Owns zone name t → Owned zone name t
  owned name t h =
      let o = find_in (is_of name t) zone.records h in
      let both = and_both (name_eq o.it.name name) (type_of o.it.rdata == t) o.passes in
      record { it = o.it; held = o.held; named = same_from_eq o.it.name name both.0; typed = same_number (type_of o.it.rdata) t both.1; is = o.is }

  pub owns_by : (r : Record RData) → Contains zone.records r → (name : DomainName) (t : ℕ) → SameName r.name name → type_of r.rdata ≡ t → Owns zone name t
  owns_by r x name t s typed = finds (is_of name t) zone.records r x (ap (λ b. b && (type_of r.rdata == t)) (eq_from_same r.name name s) ∙ equal_numbers (type_of r.rdata) t typed)
