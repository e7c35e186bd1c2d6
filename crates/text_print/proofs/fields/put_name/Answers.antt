use Rattle.std.proofs.Common.{◌≡◌, ◌∙◌, ◌+◌, ◌-◌, ℕ, inl, inr, ap, arith, take, drop, string_bytes}
use Rattle.text_print.proofs.Names.{named_more, named_stop}
use Rattle.text_print.proofs.Spelled.{slice_bytes}
use Rattle.text_print.proofs.fields.put_name.Goals as goal
use Rattle.text_print.proofs.fields.put_name.Goals.{then-place-eq0+in_ok-push_str-2, else-place-eq0}

pub returns-then-len-eq0 : goal.returns-then-len-eq0
returns-then-len-eq0 c = (
  omega (arith, c.labels-test.true),
  named_stop c.args.data.now c.labels.place (string_bytes c.args.out.now) (string_bytes c.labels.out) (string_bytes c.if-place-eq0.out) c.labels.invariant.named (omega (arith, c.labels-test.true)) (omega (arith, c.from-len.ensures, c.if-len-eq0.true)) c.labels.invariant.few
      (elim c.if-place-eq0.branch [
        | then-place-eq0+in_ok-push_str-2 w ↦ inl (omega (arith, w.if-place-eq0.true), ap (λ s. string_bytes s) w.out-is ∙ w.in_ok-push_str-2.ensures.bytes)
        | else-place-eq0 w ↦ inr ((λ none. omega (arith, w.if-place-eq0.false, none)), ap (λ s. string_bytes s) w.out-is)
      ]),
)

pub labels-preserved : goal.labels-preserved
labels-preserved c =
    let place : ℕ = c.labels.place in
    let len : ℕ = c.from-len.result in
    let count : place + 1 + len - (place + 1) ≡ len = omega arith in
    record {
      within = omega (arith, c.labels-test.true, c.if-len-data.false);
      few = omega (arith, c.if-place-len-gt-MAX_LABELS_LEN.false);
      named = named_more c.args.data.now place len (take (place + 1 + len - (place + 1)) (drop (place + 1) c.args.data.now)) (string_bytes c.args.out.now) (string_bytes c.labels.out) (string_bytes c.put_label.new.out) (slice_bytes c.args.data.now c.type_inv.data)
          c.labels.invariant.named (omega (arith, c.labels-test.true)) c.from-len.ensures (omega (arith, c.if-len-eq0.false)) (omega (arith, c.if-len-gt-MAX_LABEL_LEN.false)) (omega (arith, c.labels-test.true, c.if-len-data.false)) (ap (λ (n : ℕ). take n (drop (place + 1) c.args.data.now)) count) c.in_ok-put_label.ensures;
    }
