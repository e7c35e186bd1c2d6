-- Where every record is kept, the list stays.
use Rattle.std.proofs.Common.{◌≡◌, Bool, true, false, cond, ◌&&◌, List, [], ◌∷◌, filter, refl, ap}
use Rattle.std.specs.List.{list_all}

kept_step : {X : Type 0} (b : Bool) (x : X) (kept rest : List X) (all : Bool) → (all ≡ true → kept ≡ rest) → (b && all) ≡ true → cond b (x ∷ kept) kept ≡ x ∷ rest
kept_step true x kept rest all same e = ap (λ xs. x ∷ xs) (same e)
kept_step false x kept rest all same e = absurd cc

pub all_kept : {X : Type 0} (p : X → Bool) (xs : List X) → list_all p xs ≡ true → filter p xs ≡ xs
all_kept p [] e = refl
all_kept p (x ∷ xs) e = kept_step (p x) x _ xs (list_all p xs) (all_kept p xs) e
