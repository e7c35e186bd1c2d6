-- Two iterators that are chained give the items of both.
use Rattle.std.proofs.Common.{◌≡◌, List, ◌++◌, Option, true, refl, subst}
use Rattle.std.specs.Iterator.{Drains}
use Rattle.std.specs.Iterator.Runs.{Run, SomeRun, EachRunFrom, IsChainRun}
use Rattle.std.specs.Iterator.Adapters.{chain_steps}
use Rattle.std.specs.declared.iter.Chain.{Chain}
use Rattle.std.proofs.iter.runs.Made.{run, took}

module _ {S T A : Type 0} (steps : S → Option A → S → Type 0) (others : T → Option A → T → Type 0) where
  drained : (p : Run steps) (a : S) → p.from ≡ a → p.whole ≡ true → Drains steps a p.items
  drained p a e w = let k = took p in subst (λ s. Drains steps s p.items) e ((k.2 w).0, (k.0, k.1, (k.2 w).1))

module _ {S T A : Type 0} (steps : S → Option A → S → Type 0) (others : T → Option A → T → Type 0) where
  pub chained : (z : Chain S T) (a : S) (b : T) (zs : List A) → EachRunFrom (chain_steps steps others) z (λ p. SomeRun steps a (λ u. SomeRun others b (λ v. IsChainRun p u v))) → Drains (chain_steps steps others) z zs
      → (xs ys : List A) × Drains steps a xs × Drains others b ys × (zs ≡ xs ++ ys)
  chained z a b zs runs d =
      let p = run (chain_steps steps others) z zs true (d.1.0, d.1.1, λ _. (d.0, d.1.2)) in
      let r = runs p p.seen refl in
      let v = r.2 in
      let w = v.2.2 refl in
      (r.0.items, v.0.items, drained steps others r.0 a r.1 w.0, drained others steps v.0 b v.1 w.1, v.2.1)
