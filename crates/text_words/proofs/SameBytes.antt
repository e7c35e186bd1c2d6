-- What a comparison of bytes says.
use Rattle.std.proofs.Common.{◌≡◌, ◌∙◌, ℕ, Bool, true, false, ◌&&◌, List, [], ◌∷◌, sym, ap, refl}
use Rattle.std.proofs.Math.Dec.{eqb}
use Rattle.std.proofs.lemmas.Bool.{eqb-true, eq-eqb}
use lib.Pointwise.{pointwise}

both : (a b : Bool) → true ≡ (a && b) → (a ≡ true) × (true ≡ b)
both true b e = (refl, e)
both false b e = absurd (cc)

pub same : (a b : List ℕ) → true ≡ pointwise eqb a b → a ≡ b
same [] [] e = refl
same [] (y ∷ ys) e = absurd (cc)
same (x ∷ xs) [] e = absurd (cc)
same (x ∷ xs) (y ∷ ys) e =
    let h : (eqb x y ≡ true) × (true ≡ pointwise eqb xs ys) = both (eqb x y) (pointwise eqb xs ys) e in
    ap (λ (z : ℕ). z ∷ xs) (eqb-true x y h.0) ∙ ap (λ (zs : List ℕ). y ∷ zs) (same xs ys h.1)

alike : (a : List ℕ) → pointwise eqb a a ≡ true
alike [] = refl
alike (x ∷ xs) = rw (eq-eqb x x refl) (alike xs)

pub different : (a b : List ℕ) → false ≡ pointwise eqb a b → a ≡ b → ⊥
different a b e same =
    let h : pointwise eqb a b ≡ true = ap (λ (t : List ℕ). pointwise eqb a t) (sym same) ∙ alike a in
    cc
