use Rattle.std.proofs.Common.{◌≡◌, ◌-◌, ◌∙◌, ℕ, List, [], ap, sym, arith, get_or, take, reverse, rules}
use Rattle.std.specs.declared.cmp.Ordering.{Ordering}
use Rattle.std.specs.declared.cmp.Ordering.TheVariants.{Equal}
use Rattle.std.specs.Ordering.{ordering_then, nat_cmp}
use Rattle.std.specs.Cmp.Lexicographic.{slice_cmp}
use Rattle.wire_names.specs.rr.domain.DomainName.{cut}
use Rattle.wire_names.specs.rr.domain.NameOrder.{label_cmp}
use Rattle.wire_names.proofs.lemmas.rr.domain.LabelOrder.{site, back_step, then-first, first_out, second_out}
use Rattle.wire_names.proofs.rr.domain.compare.compare_from_last.Goals.{then-labels-test+else-j-gt0, else-labels-test}
use Rattle.wire_names.proofs.rr.domain.compare.compare_from_last.Goals as goal

pub label_at-requires-clause-within : goal.label_at-requires-clause-within
label_at-requires-clause-within c =
    (site c.args.a.now c.requires.a (c.labels.i - 1) _ (omega (arith, c.labels.invariant.first)) (c.label_starts-i.ensures.starts (c.labels.i - 1) (omega (arith, c.labels.invariant.first)))).within

pub label_at-requires-clause-fits : goal.label_at-requires-clause-fits
label_at-requires-clause-fits c =
    (site c.args.a.now c.requires.a (c.labels.i - 1) _ (omega (arith, c.labels.invariant.first)) (c.label_starts-i.ensures.starts (c.labels.i - 1) (omega (arith, c.labels.invariant.first)))).fits

pub label_at-requires-in-labels-clause-within : goal.label_at-requires-in-labels-clause-within
label_at-requires-in-labels-clause-within c =
    (site c.args.b.now c.requires.b (c.labels.j - 1) _ (omega (arith, c.labels.invariant.second)) (c.label_starts-j.ensures.starts (c.labels.j - 1) (omega (arith, c.labels.invariant.second)))).within

pub label_at-requires-in-labels-clause-fits : goal.label_at-requires-in-labels-clause-fits
label_at-requires-in-labels-clause-fits c =
    (site c.args.b.now c.requires.b (c.labels.j - 1) _ (omega (arith, c.labels.invariant.second)) (c.label_starts-j.ensures.starts (c.labels.j - 1) (omega (arith, c.labels.invariant.second)))).fits

pub returns-then-ne : goal.returns-then-ne
returns-then-ne c =
    let i : ℕ = c.labels.i in
    let j : ℕ = c.labels.j in
    let xs : List (List ℕ) = cut c.args.a.now in
    let ys : List (List ℕ) = cut c.args.b.now in
    let x : c.label_at.result.now ≡ get_or xs (i - 1) [] = c.label_at.ensures ∙ (site c.args.a.now c.requires.a (i - 1) _ (omega (arith, c.labels.invariant.first)) (c.label_starts-i.ensures.starts (i - 1) (omega (arith, c.labels.invariant.first)))).label in
    let y : c.label_at-in-labels.result.now ≡ get_or ys (j - 1) [] = c.label_at-in-labels.ensures ∙ (site c.args.b.now c.requires.b (j - 1) _ (omega (arith, c.labels.invariant.second)) (c.label_starts-j.ensures.starts (j - 1) (omega (arith, c.labels.invariant.second)))).label in
    let o : c.compare_labels-order.result ≡ label_cmp (get_or xs (i - 1) []) (get_or ys (j - 1) []) = c.compare_labels-order.ensures ∙ ap (λ (z : List ℕ). label_cmp z c.label_at-in-labels.result.now) x ∙ ap (λ (z : List ℕ). label_cmp (get_or xs (i - 1) []) z) y in
    let differs : c.compare_labels-order.result ≡ Equal → ⊥ = search rules in
    let b = back_step label_cmp xs ys i j (omega arith) (omega arith) c.labels.invariant.first c.labels.invariant.second in
    let r : Ordering = slice_cmp label_cmp (reverse (take (i - 1) xs)) (reverse (take (j - 1) ys)) in
    sym (then-first c.compare_labels-order.result r differs) ∙ ap (λ (z : Ordering). ordering_then z r) o ∙ sym b ∙ c.labels.invariant.rest

pub labels-preserved : goal.labels-preserved
labels-preserved c =
    let i : ℕ = c.labels.i in
    let j : ℕ = c.labels.j in
    let xs : List (List ℕ) = cut c.args.a.now in
    let ys : List (List ℕ) = cut c.args.b.now in
    let x : c.label_at.result.now ≡ get_or xs (i - 1) [] = c.label_at.ensures ∙ (site c.args.a.now c.requires.a (i - 1) _ (omega (arith, c.labels.invariant.first)) (c.label_starts-i.ensures.starts (i - 1) (omega (arith, c.labels.invariant.first)))).label in
    let y : c.label_at-in-labels.result.now ≡ get_or ys (j - 1) [] = c.label_at-in-labels.ensures ∙ (site c.args.b.now c.requires.b (j - 1) _ (omega (arith, c.labels.invariant.second)) (c.label_starts-j.ensures.starts (j - 1) (omega (arith, c.labels.invariant.second)))).label in
    let o : c.compare_labels-order.result ≡ label_cmp (get_or xs (i - 1) []) (get_or ys (j - 1) []) = c.compare_labels-order.ensures ∙ ap (λ (z : List ℕ). label_cmp z c.label_at-in-labels.result.now) x ∙ ap (λ (z : List ℕ). label_cmp (get_or xs (i - 1) []) z) y in
    let same : c.compare_labels-order.result ≡ Equal = search rules in
    let b = back_step label_cmp xs ys i j (omega arith) (omega arith) c.labels.invariant.first c.labels.invariant.second in
    let r : Ordering = slice_cmp label_cmp (reverse (take (i - 1) xs)) (reverse (take (j - 1) ys)) in
    record {
      first = omega (arith, c.labels.invariant.first);
      second = omega (arith, c.labels.invariant.second);
      rest = ap (λ (z : Ordering). ordering_then z r) (sym same ∙ o) ∙ sym b ∙ c.labels.invariant.rest;
    }

pub returns : goal.returns
returns c =
    let xs : List (List ℕ) = cut c.args.a.now in
    let ys : List (List ℕ) = cut c.args.b.now in
    let out : nat_cmp c.labels.i c.labels.j ≡ slice_cmp label_cmp (reverse (take c.labels.i xs)) (reverse (take c.labels.j ys)) = elim c.labels-test.branch [
      | then-labels-test+else-j-gt0 w ↦ second_out label_cmp xs ys c.labels.i c.labels.j (omega arith) c.labels.invariant.first
      | else-labels-test w ↦ first_out label_cmp xs ys c.labels.i c.labels.j (omega arith) c.labels.invariant.second
    ] in
    c.cmp.ensures ∙ out ∙ c.labels.invariant.rest
