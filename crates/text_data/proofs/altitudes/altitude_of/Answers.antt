use Rattle.std.proofs.Common.{◌≡◌, ◌-◌, ℕ, true, false, List, Option, Some, None, length, get_or, take, drop, sym, subst, refl}
use Rattle.std.proofs.lemmas.List.{take_rest}
use Rattle.std.specs.Prelude.{◌≢◌, IfNone, IfSome}
use Rattle.text_data.specs.LocationText.{HasNone, IsAbove, IsAltitude, IsBelow}
use Rattle.text_data.specs.LocationText.IsAltitude.{above, below}
use Rattle.text_data.proofs.altitudes.altitude_of.Goals as goal

as_above : (r : Option ℕ) (text : List ℕ) → get_or text 0 0 ≢ 45 → IfSome r (IsAbove text) → IfSome r (IsAltitude text)
as_above (Some height) text other is = above other is
as_above None text other is = is

none_above : (text : List ℕ) → get_or text 0 0 ≢ 45 → HasNone (IsAbove text) → HasNone (IsAltitude text)
none_above text other none height (above differs is) = none height is
none_above text other none height (below same is) = other same

no_above : (r : Option ℕ) (text : List ℕ) → get_or text 0 0 ≢ 45 → IfNone r (HasNone (IsAbove text)) → IfNone r (HasNone (IsAltitude text))
no_above (Some height) text other none = none
no_above None text other none = none_above text other none

as_below : (r : Option ℕ) (text : List ℕ) → get_or text 0 0 ≡ 45 → IfSome r (IsBelow (take (length text - 1) (drop 1 text))) → IfSome r (IsAltitude text)
as_below (Some height) text same is = below same (subst (λ (t : List ℕ). IsBelow t height) (take_rest text 1) is)
as_below None text same is = is

none_below : (text : List ℕ) → get_or text 0 0 ≡ 45 → HasNone (IsBelow (drop 1 text)) → HasNone (IsAltitude text)
none_below text same none height (above differs is) = differs same
none_below text same none height (below equal is) = none height is

no_below : (r : Option ℕ) (text : List ℕ) → get_or text 0 0 ≡ 45 → IfNone r (HasNone (IsBelow (take (length text - 1) (drop 1 text)))) → IfNone r (HasNone (IsAltitude text))
no_below (Some height) text same none = none
no_below None text same none = none_below text same (λ height is. none height (subst (λ (t : List ℕ). IsBelow t height) (sym (take_rest text 1)) is))

not_below : (text : List ℕ) → (get_or text 0 0 ≡ 45 → false ≡ true) → get_or text 0 0 ≢ 45
not_below text told e = let f : false ≡ true = told e in absurd (cc)

pub returns-then-is_negative-clause-value : goal.returns-then-is_negative-clause-value
returns-then-is_negative-clause-value c = as_below c.below.result c.args.text.now (c.if-is_negative.ensures.first.0 refl) c.below.ensures.value

pub returns-then-is_negative-clause-none : goal.returns-then-is_negative-clause-none
returns-then-is_negative-clause-none c = no_below c.below.result c.args.text.now (c.if-is_negative.ensures.first.0 refl) c.below.ensures.none

pub returns-clause-value : goal.returns-clause-value
returns-clause-value c = as_above c.above.result c.args.text.now (not_below c.args.text.now c.if-is_negative.ensures.first.1) c.above.ensures.value

pub returns-clause-none : goal.returns-clause-none
returns-clause-none c = no_above c.above.result c.args.text.now (not_below c.args.text.now c.if-is_negative.ensures.first.1) c.above.ensures.none
