use Rattle.std.proofs.Common.{◌≡◌, ◌<◌, ◌≤◌, ◌∙◌, ◌+◌, ◌-◌, ◌∷◌, ◌++◌, ℕ, List, ap, arith, rules, get_or, length, length-append, [], take, drop, refl, subst, sym}
use Rattle.std.proofs.lemmas.List.{append_assoc, append-nil, take_all, take_more}
use Rattle.std.proofs.lemmas.List.Elements.{All-get_or}
use Rattle.wire_names.specs.rr.domain.DomainName.{wire_form, label_offset, IsLabel}
use Rattle.wire_names.proofs.lemmas.rr.domain.WireForm.{Step, name_len-wire_form, step, below_at, wire-append, wire-push}
use Rattle.text_words.proofs.names.append_labels.Goals as goal

-- the label at the place, and where it ends
module _ (ls : List (List ℕ)) (i place len : ℕ) (wire : List ℕ) where
  pub record Here : Type 0 where
    pub below : i < length ls
    pub count : len ≡ length (get_or ls i [])
    pub next : label_offset ls (i + 1) ≡ place + 1 + len
    pub fits : place + 1 + len ≤ length wire
    pub label : take (place + 1 + len - (place + 1)) (drop (place + 1) wire) ≡ get_or ls i []

  here : wire ≡ wire_form ls → place ≡ label_offset ls i → place < length wire → len ≡ get_or wire place 0 → Here
  here w at lt b =
      let s : Step ls i = step ls i (omega (arith, ap length w)) in
      let n : len ≡ length (get_or ls i []) = b ∙ ap (λ xs. get_or xs place 0) w ∙ ap (λ k. get_or (wire_form ls) k 0) at ∙ s.count in
      record {
        below = s.below;
        count = n;
        next = omega (arith, s.next);
        fits = omega (arith, s.next, s.fits, ap length w);
        label =
            let k : place + 1 + len - (place + 1) ≡ length (get_or ls i []) = omega (arith, n) in
            rw (k, w, at) s.label;
      }

pub slice_bounds-push-end : goal.slice_bounds-push-end
slice_bounds-push-end c =
    let h = here c.args.name.now.labels c.labels.count c.labels.place c.from.result c.as_wire-wire.result.now c.as_wire-wire.ensures.labels c.labels.invariant.at c.labels-test.true c.from.ensures in
    search (rules, h.fits)

pub push-requires-clause-label : goal.push-requires-clause-label
push-requires-clause-label c =
    let h = here c.args.name.now.labels c.labels.count c.labels.place c.from.result c.as_wire-wire.result.now c.as_wire-wire.ensures.labels c.labels.invariant.at c.labels-test.true c.from.ensures in
    subst IsLabel (sym h.label) (All-get_or IsLabel c.args.name.now.labels c.labels.count [] h.below c.as_wire-wire.ensures.bounds.each)

pub push-requires-clause-fits : goal.push-requires-clause-fits
push-requires-clause-fits c =
    let h = here c.args.name.now.labels c.labels.count c.labels.place c.from.result c.as_wire-wire.result.now c.as_wire-wire.ensures.labels c.labels.invariant.at c.labels-test.true c.from.ensures in
    omega (arith, ap length h.label, h.count, h.fits, c.labels.invariant.size, c.wire_len.ensures.size, c.if-wire_len-wire-gt-MAX_LABELS_LEN.false)

pub labels-init : goal.labels-init
labels-init c = record {
  at = refl;
  below = omega arith;
  small = omega arith;
  labels = sym (append-nil c.args.labels.now);
  size = omega arith;
}

pub labels-preserved : goal.labels-preserved
labels-preserved c =
    let ls : List (List ℕ) = c.args.name.now.labels in
    let i : ℕ = c.labels.count in
    let h = here ls i c.labels.place c.from.result c.as_wire-wire.result.now c.as_wire-wire.ensures.labels c.labels.invariant.at c.labels-test.true c.from.ensures in
    let pushed : c.push.new.self ≡ c.labels.labels ++ get_or ls i [] ∷ [] = c.push.ensures ∙ ap (λ (l : List ℕ). c.labels.labels ++ l ∷ []) h.label in
    record {
      at = omega (arith, h.next);
      below = omega (arith, h.below);
      small = omega arith;
      labels = pushed
          ∙ ap (λ (xs : List (List ℕ)). xs ++ get_or ls i [] ∷ []) c.labels.invariant.labels
          ∙ append_assoc c.args.labels.now (take i ls) (get_or ls i [] ∷ [])
          ∙ ap (λ (xs : List (List ℕ)). c.args.labels.now ++ xs) (sym (take_more ls i [] h.below));
      size = omega (arith, ap (λ (xs : List (List ℕ)). length (wire_form xs)) pushed, ap length (wire-push c.labels.labels (get_or ls i [])), length-append (wire_form c.labels.labels) (length (get_or ls i []) ∷ get_or ls i []), h.count, c.labels.invariant.size);
    }

pub returns-clause-behind : goal.returns-clause-behind
returns-clause-behind c =
    let ls : List (List ℕ) = c.args.name.now.labels in
    let all : c.labels.count ≡ length ls = below_at ls c.labels.count c.labels.invariant.below (omega (arith, ap length c.as_wire-wire.ensures.labels, c.labels.invariant.at)) in
    c.labels.invariant.labels ∙ ap (λ (xs : List (List ℕ)). c.args.labels.now ++ xs) (ap (λ (n : ℕ). take n ls) all ∙ take_all (length ls) ls (omega arith))

pub returns-then-wire_len-wire-gt-MAX_LABELS_LEN-clause-refused : goal.returns-then-wire_len-wire-gt-MAX_LABELS_LEN-clause-refused
returns-then-wire_len-wire-gt-MAX_LABELS_LEN-clause-refused c =
    let own : List (List ℕ) = c.args.labels.now in
    let more : List (List ℕ) = c.args.name.now.labels in
    omega (arith, name_len-wire_form (own ++ more), ap length (wire-append own more), length-append (wire_form own) (wire_form more), ap length c.as_wire-wire.ensures.labels, c.wire_len.ensures.size, c.if-wire_len-wire-gt-MAX_LABELS_LEN.true)
