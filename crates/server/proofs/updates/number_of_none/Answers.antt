-- The first rule that is of no zone that was added.
use Rattle.std.proofs.Common.{◌≡◌, ◌⊎◌, inl, inr, ◌<◌, ◌≤◌, ◌+◌, ◌∙◌, ℕ, List, Bool, true, false, Some, None, cond, nat_lt, get_or, length, not, ap, refl, subst, sym, arith}
use Rattle.std.proofs.lemmas.Grind.{common_steps}
use Rattle.std.proofs.lemmas.Bool.{cases_lt, lt-ltb, ltb-true}
use Rattle.std.proofs.lemmas.List.Sums.{fails_before_first, passes_at_first}
use Rattle.std.specs.List.{position_or_len}
use Rattle.std.specs.Option.{option_map_or}
use Rattle.wire_names.specs.rr.domain.DomainName.{DomainName}
use Rattle.served_zones.specs.declared.grants.Grant.{Grant}
use Rattle.server.specs.Updates.{is_added, number_of_none}
use Rattle.server.proofs.updates.number_of_none.Goals as goal

-- it is of none
abbrev is_apart : List DomainName → Grant → Bool
is_apart apexes grant = not (is_added apexes grant.apex)

module _ (apexes : List DomainName) (grants : List Grant) where
  abbrev first : ℕ
  first = position_or_len (is_apart apexes) grants

  module _ (place : ℕ) (grant : Grant) (so_far : place ≤ first) (inside : place < length grants) where
    past : is_added apexes (get_or grants place grant).apex ≡ true → place + 1 ≤ first
    past here = by (cases_lt place first)
      where
        by : (place < first) ⊎ (first ≤ place) → place + 1 ≤ first
        by (inl less) = omega (arith, less)
        by (inr more) =
            let is : first ≡ place = omega (arith, so_far, more) in
            let passes : is_apart apexes (get_or grants place grant) ≡ true =
            subst (λ (n : ℕ). is_apart apexes (get_or grants n grant) ≡ true) is (passes_at_first (is_apart apexes) grants grant (omega (arith, is, inside))) in
            absurd (let no : false ≡ true = sym (ap not here) ∙ passes in cc)

    at_place : is_added apexes (get_or grants place grant).apex ≡ false → number_of_none grants apexes ≡ place + 1
    at_place here = by (cases_lt place first)
      where
        by : (place < first) ⊎ (first ≤ place) → number_of_none grants apexes ≡ place + 1
        by (inl less) = absurd (let no : true ≡ false = sym (ap not here) ∙ fails_before_first (is_apart apexes) grants place grant less in cc)
        by (inr more) =
            let is : first ≡ place = omega (arith, so_far, more) in
            subst (λ (n : ℕ). option_map_or (λ (p : ℕ). p + 1) (cond (nat_lt n (length grants)) (Some n) None) 0 ≡ place + 1) (sym is)
            (subst (λ (b : Bool). option_map_or (λ (p : ℕ). p + 1) (cond b (Some place) None) 0 ≡ place + 1) (sym (lt-ltb place (length grants) inside)) refl)

  all_added : length grants ≤ first → 0 ≡ number_of_none grants apexes
  all_added so_far = by (nat_lt first (length grants)) refl
    where
      by : (b : Bool) → nat_lt first (length grants) ≡ b → 0 ≡ option_map_or (λ (p : ℕ). p + 1) (cond b (Some first) None) 0
      by true is = absurd (omega (arith, ltb-true first (length grants) is, so_far))
      by false is = refl

pub loop-place-init : goal.loop-place-init
loop-place-init c = omega arith

pub loop-place-preserved : goal.loop-place-preserved
loop-place-preserved c =
    past c.args.apexes.now c.args.grants.now c.loop-place.place c.index-grants-place.result c.loop-place.invariant c.loop-place-test.true (sym c.is_added.ensures ∙ c.if-not-is_added.false)

pub returns-then-not-is_added : goal.returns-then-not-is_added
returns-then-not-is_added c =
    let one_more : c.saturating_add.result ≡ c.loop-place.place + 1 = grind (arith, common_steps) in
    one_more ∙ sym (at_place c.args.apexes.now c.args.grants.now c.loop-place.place c.index-grants-place.result c.loop-place.invariant c.loop-place-test.true (sym c.is_added.ensures ∙ c.if-not-is_added.true))

pub returns : goal.returns
returns c = all_added c.args.apexes.now c.args.grants.now (omega (arith, c.loop-place.invariant, c.loop-place-test.false))
