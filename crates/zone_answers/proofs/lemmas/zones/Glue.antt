-- Values that belong together, each to the one at its place, such as the addresses of the servers at each cut.
use Rattle.std.proofs.Common.{◌≡◌, ℕ, zero, suc, ◌+◌, ◌<◌, List, [], ◌∷◌, ◌++◌, take, length, get_or, Some, sym, subst, ap, arith}
use Rattle.std.specs.Prelude.{slice_get}
use Rattle.std.specs.declared.alloc.Global.{Global}
use Rattle.std.specs.declared.vec.Vec.{Vec}
use Rattle.wire_messages.specs.declared.rr.rdata.RData.{RData}
use Rattle.wire_messages.specs.declared.rr.record.Record.{Record}
use Rattle.zone_answers.specs.declared.additionals.Source.TheVariants as source
use Rattle.zone_answers.specs.Additionals.{AreAdditionals}
use Rattle.zone_answers.specs.representation.TopCuts.{AreEach}
use Rattle.zone_answers.specs.Zones.{Records, Zone}

abbrev pub Section : Type 0
Section = Vec (Record RData) Global

-- the addresses of the servers that are a set's records
abbrev pub IsGlueOf : Zone → Records → Section → Type 0
IsGlueOf zone servers glue = AreAdditionals source.Glue zone [] servers glue.items

module _ {X Y : Type 0} (R : X → Y → Type 0) where
  some_is : {A : Type 0} {x y : A} → Some x ≡ Some y → x ≡ y
  some_is e = cc

  pub each_at : (xs : List X) (ys : List Y) (i : ℕ) (x : X) (y : Y) → AreEach R xs ys → slice_get xs i ≡ Some x → slice_get ys i ≡ Some y → R x y
  each_at [] ys i x y are at is = absurd cc
  each_at (z ∷ xs) [] i x y are at is = absurd cc
  each_at (z ∷ xs) (w ∷ ys) zero x y are at is = subst (λ v. R x v) (some_is is) (subst (λ v. R v w) (some_is at) are.0)
  each_at (z ∷ xs) (w ∷ ys) (suc i) x y are at is = each_at xs ys i x y are.1 at is

  pub one_more : (xs : List X) (ys : List Y) (x : X) (y : Y) → AreEach R xs ys → R x y → AreEach R (xs ++ x ∷ []) (ys ++ y ∷ [])
  one_more [] [] x y are is = (is, tt)
  one_more [] (w ∷ ys) x y are is = absurd are
  one_more (z ∷ xs) [] x y are is = absurd are
  one_more (z ∷ xs) (w ∷ ys) x y are is = (are.0, one_more xs ys x y are.1 is)

  next_taken : (xs : List X) (i : ℕ) (x : X) → i < length xs → x ≡ get_or xs i x → take (suc i) xs ≡ take i xs ++ x ∷ []
  next_taken [] i x h is = absurd (omega arith)
  next_taken (z ∷ xs) zero x h is = ap (λ (v : X). v ∷ []) (sym is)
  next_taken (z ∷ xs) (suc i) x h is = ap (λ (vs : List X). z ∷ vs) (next_taken xs i x (omega arith) is)

  -- a walk over the first ones, one further
  pub walks_on : (xs : List X) (i : ℕ) (x : X) (ys : List Y) (y : Y) → i < length xs → x ≡ get_or xs i x → AreEach R (take i xs) ys → R x y → AreEach R (take (i + 1) xs) (ys ++ y ∷ [])
  walks_on xs i x ys y h is are own =
      let next : suc i ≡ i + 1 = omega arith in
      subst (λ n. AreEach R (take n xs) (ys ++ y ∷ [])) next (subst (λ (vs : List X). AreEach R vs (ys ++ y ∷ [])) (sym (next_taken xs i x h is)) (one_more (take i xs) ys x y are own))
