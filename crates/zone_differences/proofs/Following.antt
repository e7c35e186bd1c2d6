-- Differences that are put last, and those from one on.
use Rattle.std.proofs.Common.{◌≡◌, ◌∙◌, ap, arith, sym, refl, ℕ, Bool, true, false, cond, length, ◌++◌, [], ◌∷◌, List, append_assoc}
use Rattle.std.specs.Prelude.{◌==◌, Some}
use Rattle.std.proofs.lemmas.Bool.{eqb-true}
use Rattle.std.proofs.lemmas.List.{append-nil}
use Rattle.hickory_base.specs.zone_store.ZoneAnswers.{soa_serial}
use Rattle.zone_differences.specs.Histories.{IsFollowed, or_else, since}
use Rattle.zone_differences.specs.declared.difference.Difference.{Difference}

abbrev Differences : Type 0
Differences = List Difference

-- ---- from one on

-- the first that is some
first_of : (zs ws others : Differences) → zs ≡ ws → (ws ≡ [] → ⊥) → or_else zs others ≡ ws
first_of [] ws others e some = absurd (some (sym e))
first_of (z ∷ zs) ws others e some = e

pub or_none : (zs : Differences) → or_else zs [] ≡ zs
or_none [] = refl
or_none (z ∷ zs) = refl

-- one more is looked at
pub one_more : (b : Bool) (d : Difference) (others found more : Differences) → or_else (or_else more (cond b (d ∷ others) [])) found ≡ or_else more (cond b (d ∷ others) found)
one_more true d others found [] = refl
one_more false d others found [] = refl
one_more b d others found (m ∷ more) = refl

-- one of the newer ones leads from there
pub since_newer : (s : ℕ) (xs ys : Differences) → (since s ys ≡ [] → ⊥) → since s (xs ++ ys) ≡ since s ys
since_newer s [] ys some = refl
since_newer s (d ∷ xs) ys some = first_of (since s (xs ++ ys)) (since s ys) (cond (soa_serial (Some d.old_soa) == s) (d ∷ xs ++ ys) []) (since_newer s xs ys some) some

-- those behind some; none behind none
abbrev behind_some : Differences → Differences → Differences
behind_some [] ys = []
behind_some (z ∷ zs) ys = z ∷ zs ++ ys

behind : (zs ys : Differences) → (zs ≡ [] → ⊥) → behind_some zs ys ≡ zs ++ ys
behind [] ys some = absurd (some refl)
behind (z ∷ zs) ys some = refl

older_step : (d : Difference) (xs ys rest more : Differences) (b : Bool) → more ≡ behind_some rest ys → or_else more (cond b (d ∷ xs ++ ys) []) ≡ behind_some (or_else rest (cond b (d ∷ xs) [])) ys
older_step d xs ys [] more true e = ap (λ (l : Differences). or_else l (d ∷ xs ++ ys)) e
older_step d xs ys [] more false e = ap (λ (l : Differences). or_else l []) e
older_step d xs ys (r ∷ rest) more b e = ap (λ (l : Differences). or_else l (cond b (d ∷ xs ++ ys) [])) e

none_newer : (s : ℕ) (xs ys : Differences) → since s ys ≡ [] → since s (xs ++ ys) ≡ behind_some (since s xs) ys
none_newer s [] ys none = none
none_newer s (d ∷ xs) ys none = older_step d xs ys (since s xs) (since s (xs ++ ys)) (soa_serial (Some d.old_soa) == s) (none_newer s xs ys none)

-- none of the newer ones does, and one of the older ones
pub since_older : (s : ℕ) (xs ys : Differences) → since s ys ≡ [] → (since s xs ≡ [] → ⊥) → since s (xs ++ ys) ≡ since s xs ++ ys
since_older s xs ys none some = none_newer s xs ys none ∙ behind (since s xs) ys some

-- none does
pub since_none : (s : ℕ) (xs ys : Differences) → since s ys ≡ [] → since s xs ≡ [] → since s (xs ++ ys) ≡ []
since_none s xs ys none old = none_newer s xs ys none ∙ ap (λ (l : Differences). behind_some l ys) old

-- ---- differences that are put last

-- none of a list, where none of it and what is behind it
pub front_none : {T : Type 0} (xs ys : List T) → xs ++ ys ≡ [] → xs ≡ []
front_none [] ys h = refl
front_none (x ∷ xs) ys h = absurd (cc)

-- a list that has no length
pub no_length : {T : Type 0} (xs : List T) → (length xs == 0) ≡ true → xs ≡ []
no_length [] h = refl
no_length (x ∷ xs) h = absurd (omega (arith, eqb-true (length (x ∷ xs)) 0 h))

pub put_last : (old between O N P new : Differences) (d : Difference) → IsFollowed old [] between → O ++ N ≡ between → P ≡ N ++ d ∷ [] → new ≡ O ++ P → IsFollowed old (d ∷ []) new
put_last old between O N P new d r view pushed is = (
  r.0,
  ap (λ (l : Differences). l ++ d ∷ []) (sym (append-nil old) ∙ r.1)
      ∙ append_assoc r.0 between (d ∷ [])
      ∙ ap (λ (l : Differences). r.0 ++ l)
      (ap (λ (l : Differences). l ++ d ∷ []) (sym view) ∙ append_assoc O N (d ∷ []) ∙ ap (λ (l : Differences). O ++ l) (sym pushed) ∙ sym is),
)

-- all are given up
pub all_given_up : (old more new : Differences) → new ≡ [] → IsFollowed old more new
all_given_up old more new none = (old ++ more, sym (append-nil (old ++ more)) ∙ ap (λ (l : Differences). (old ++ more) ++ l) (sym none))
