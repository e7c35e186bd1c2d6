-- What functions that ask of signed zones answer.
use Rattle.std.proofs.Common.{◌≡◌, ◌==◌, ◌||◌, ◌∙◌, ℕ, Bool, true, false, List, [], ◌∷◌, Option, Some, None, option_map, refl, sym, ap, subst, inl, inr, arith}
use Rattle.std.specs.Prelude.{◌↔◌, not, IfOk, IsTrue, MatchOption, Result, Ok, Err}
use Rattle.std.specs.List.{Contains, list_any}
use Rattle.std.proofs.lemmas.Bool.Decides.{nat_tests}
use Rattle.std.proofs.lemmas.List.Elements.{Contains-append_right}
use Rattle.wire_messages.specs.rr.RecordData.{type_of}
use Rattle.wire_messages.specs.declared.rr.rdata.RData.{RData}
use Rattle.wire_messages.specs.declared.rr.record.Record.{Record}
use Rattle.wire_names.specs.rr.domain.DomainName.{DomainName}
use Rattle.wire_names.specs.rr.domain.NameOrder.{lower_name}
use Rattle.zone_check.proofs.NextOwners.{next_lower}
use Rattle.zone_check.specs.CheckedZones.{CheckedZone}
use Rattle.zone_check.specs.SignedZones.{HasOtherNext, IsListed, IsNext, IsUnlisted, nsec_at, nsec_of}
use Rattle.zone_denials.proofs.lemmas.Members.{head_or_in}
use Rattle.zone_denials.specs.Nsec.{Nsec}

some_same : {A : Type 0} {x y : A} → Some x ≡ Some y → x ≡ y
some_same e = cc

none_some : {A : Type 0} {x : A} → None ≡ Some x → ⊥
none_some e = cc

not_true : (b : Bool) → not b ≡ true → b ≡ true → ⊥
not_true b fails is = cc

not_by : (b : Bool) → ¬ (b ≡ true) → not b ≡ true
not_by true h = absurd (h refl)
not_by false h = refl

pub with_fact : {E : Type 0} (result : Result Bool E) (S P : Type 0) → S → IfOk result (λ is. IsTrue is ↔ P) → IfOk result (λ is. IsTrue is ↔ (S × P))
with_fact (Ok b) S P s h = (λ t. (s, h.0 t), λ x. h.1 x.1)
with_fact (Err e) S P s h = tt

pub other_is : (zone : CheckedZone) (r : Record RData) (n : Nsec) (lower : DomainName) (b : Bool) → nsec_of r ≡ Some n → lower ≡ lower_name r.name → (IsTrue b ↔ IsNext zone lower n.next) → IsTrue (not b) ↔ HasOtherNext zone r
other_is zone r n lower b e l h = (forth, back) where
  Says : Option Nsec → Type 0
  Says said = MatchOption said ⊥ (λ m. ¬ (IsNext zone r.name m.next))

  forth : IsTrue (not b) → HasOtherNext zone r
  forth fails = subst Says (sym e) (λ next. not_true b fails (h.1 (subst (λ (d : DomainName). IsNext zone d n.next) (sym l) ((next_lower zone r.name n.next).1 next))))

  back : HasOtherNext zone r → IsTrue (not b)
  back other =
      let differs : ¬ (IsNext zone r.name n.next) = subst Says e other in
      not_by b (λ is. differs ((next_lower zone r.name n.next).0 (subst (λ (d : DomainName). IsNext zone d n.next) l (h.0 is))))

or_any : (a b : Bool) → b ≡ true → (a || b) ≡ true
or_any true b h = refl
or_any false b h = h

same_number : (a b : ℕ) → (a == b) ≡ true → a ≡ b
same_number a b h = grind (arith, nat_tests)

equal_numbers : (a b : ℕ) → a ≡ b → (a == b) ≡ true
equal_numbers a b e = grind (arith, nat_tests)

module _ (p : ℕ → Bool) (t : ℕ) (same : (y : ℕ) → p y ≡ (y == t)) where
  any_in : (ts : List ℕ) → list_any p ts ≡ true → Contains ts t
  any_in [] h = absurd cc
  any_in (x ∷ xs) h = by_test (p x) refl h (any_in xs) where
    by_test : (b : Bool) → p x ≡ b → (b || list_any p xs) ≡ true → (list_any p xs ≡ true → Contains xs t) → Contains (x ∷ xs) t
    by_test true e h rest = (0, omega arith, same_number x t (sym (same x) ∙ e))
    by_test false e h rest = Contains-append_right (x ∷ []) xs t (rest h)

  in_any : (ts : List ℕ) → Contains ts t → list_any p ts ≡ true
  in_any [] h = absurd (omega (arith, h.1))
  in_any (x ∷ xs) h = elim (head_or_in x xs t h) [
    | inl e ↦ ap (λ b. b || list_any p xs) (same x ∙ equal_numbers x t e)
    | inr more ↦ or_any (p x) (list_any p xs) (in_any xs more)
  ]

  pub any_is : (ts : List ℕ) (b : Bool) → b ≡ list_any p ts → IsTrue b ↔ Contains ts t
  any_is ts b e = (λ is. any_in ts (sym e ∙ is), λ x. e ∙ in_any ts x)

pub unlisted_is : (zone : CheckedZone) (r : Record RData) (types : List ℕ) (b : Bool) → option_map (λ (n : Nsec). n.types) (nsec_at zone r.name) ≡ Some types → IsListed zone r.name (type_of r.rdata) → (IsTrue b ↔ Contains types (type_of r.rdata)) → IsTrue (not b) ↔ IsUnlisted zone r
unlisted_is zone r types b e listed h = by_said (nsec_at zone r.name) refl e where
  Lacks : Option Nsec → Type 0
  Lacks said = MatchOption said ⊥ (λ n. ¬ (Contains n.types (type_of r.rdata)))

  by_said : (said : Option Nsec) → nsec_at zone r.name ≡ said → option_map (λ (n : Nsec). n.types) said ≡ Some types → IsTrue (not b) ↔ IsUnlisted zone r
  by_said None at e = absurd (none_some e)
  by_said (Some n) at e = (forth, back) where
    is : n.types ≡ types
    is = some_same e

    forth : IsTrue (not b) → IsUnlisted zone r
    forth fails = record { listed = listed; missing = subst Lacks (sym at) (λ x. not_true b fails (h.1 (subst (λ (ts : List ℕ). Contains ts (type_of r.rdata)) is x))) }

    back : IsUnlisted zone r → IsTrue (not b)
    back u =
        let lacks : ¬ (Contains n.types (type_of r.rdata)) = subst Lacks at u.missing in
        not_by b (λ t. lacks (subst (λ (ts : List ℕ). Contains ts (type_of r.rdata)) (sym is) (h.0 t)))
