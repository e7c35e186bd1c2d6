use Rattle.std.proofs.Common.{◌≡◌, ◌<◌, ◌≤◌, ◌∙◌, ◌+◌, ◌-◌, ◌++◌, ℕ, false, refl, List, ap, arith, get_or, length, [], take, drop, sym, rules}
use Rattle.std.proofs.Output.{has_written_append, has_written_of_eq}
use Rattle.wire_names.specs.rr.domain.DomainName.{wire_form, label_offset}
use Rattle.wire_names.specs.text.TextForm.{labels_text, bytes_text, spelled_name}
use Rattle.wire_names.proofs.lemmas.rr.domain.WireForm.{Step, step}
use Rattle.wire_names.proofs.lemmas.rr.domain.TextForm.{labels_text-more, piece, first_piece, later_piece, labels_text-whole}
use Rattle.wire_names.proofs.rr.domain.name_display.NameDisplay.fmt.Goals.{then-count-eq0, else-count-eq0, then-is_fqdn-2, else-is_fqdn-2}
use Rattle.wire_names.proofs.rr.domain.name_display.NameDisplay.fmt.Goals as goal

-- the label at the place, and where it ends
module _ (ls : List (List ℕ)) (i place len : ℕ) (wire : List ℕ) where
  pub record Here : Type 0 where
    pub below : i < length ls
    pub next : label_offset ls (i + 1) ≡ place + 1 + len
    pub fits : place + 1 + len ≤ length wire
    pub label : take (place + 1 + len - (place + 1)) (drop (place + 1) wire) ≡ get_or ls i []

  here : wire ≡ wire_form ls → place ≡ label_offset ls i → place < length wire → len ≡ get_or wire place 0 → Here
  here w at lt b =
      let s : Step ls i = step ls i (omega (arith, ap length w)) in
      let n : len ≡ length (get_or ls i []) = b ∙ ap (λ xs. get_or xs place 0) w ∙ ap (λ k. get_or (wire_form ls) k 0) at ∙ s.count in
      record {
        below = s.below;
        next = omega (arith, s.next);
        fits = omega (arith, s.next, s.fits, ap length w);
        label =
            let k : place + 1 + len - (place + 1) ≡ length (get_or ls i []) = omega (arith, n) in
            rw (k, w, at) s.label;
      }

pub slice_bounds-label-end : goal.slice_bounds-label-end
slice_bounds-label-end g c =
    let h = here c.args.self.now.labels c.loop-place.count c.loop-place.place c.from.result c.as_wire-wire.result.now c.as_wire-wire.ensures.labels c.loop-place.invariant.at c.loop-place-test.true c.from.ensures in
    search (rules, h.fits)

pub loop-place-preserved : goal.loop-place-preserved
loop-place-preserved g c =
    let h = here c.args.self.now.labels c.loop-place.count c.loop-place.place c.from.result c.as_wire-wire.result.now c.as_wire-wire.ensures.labels c.loop-place.invariant.at c.loop-place-test.true c.from.ensures in
    record {
      at = omega (arith, h.next);
      below = omega (arith, h.below);
      small = omega arith;
      wrote = λ plain.
          let place = c.loop-place.place in
          let shown = take (place + 1 + c.from.result - (place + 1)) (drop (place + 1) c.as_wire-wire.result.now) in
          let e : c.if-count-eq0.dot.now ++ bytes_text false shown ≡ piece c.loop-place.count (get_or c.args.self.now.labels c.loop-place.count []) =
          elim c.if-count-eq0.branch [
            | then-count-eq0 w ↦ first_piece _ _ _ _ w.if-count-eq0.true (rw w.dot-is refl) h.label
            | else-count-eq0 w ↦ later_piece _ _ _ _ w.if-count-eq0.false (rw w.dot-is refl) h.label
          ] in
          has_written_of_eq _ _ _ _ _ (sym (labels_text-more c.args.self.now.labels c.loop-place.count h.below)) (has_written_append _ _ _ _ _ _ (c.loop-place.invariant.wrote plain) (has_written_of_eq _ _ _ _ _ e (search rules)));
    }

pub returns-clause-writes : goal.returns-clause-writes
returns-clause-writes g c = λ plain ok.
    let some : 0 < length c.as_wire-wire.result.now = search rules in
    let e : labels_text (take c.loop-place.count c.args.self.now.labels) ++ c.if-is_fqdn-2.write_str.now ≡ spelled_name c.args.self.now =
    labels_text-whole c.args.self.now c.as_wire-wire.result.now c.loop-place.count c.loop-place.place _ c.as_wire-wire.ensures.labels some c.loop-place.invariant.at c.loop-place.invariant.below c.loop-place-test.false
    (elim c.if-is_fqdn-2.branch [
      | then-is_fqdn-2 w ↦ rw (w.write_str-is, sym c.is_fqdn-2.ensures ∙ w.if-is_fqdn-2.true) refl
      | else-is_fqdn-2 w ↦ rw (w.write_str-is, sym c.is_fqdn-2.ensures ∙ w.if-is_fqdn-2.false) refl
    ]) in
    has_written_of_eq _ _ _ _ _ e (has_written_append _ _ _ _ _ _ (c.loop-place.invariant.wrote plain) (search rules))
