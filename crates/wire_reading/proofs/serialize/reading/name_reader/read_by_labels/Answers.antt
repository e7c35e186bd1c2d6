use Rattle.std.proofs.Common.{arith, ◌≡◌, ◌∙◌, sym, ap, add_assoc, ◌++◌, ◌∷◌, [], take, drop, ◌+◌, ◌<◌, length, Some, Err, List, ℕ}
use Rattle.std.specs.Prelude.{slice_get}
use Rattle.wire_messages.specs.serialize.reading.NameReading.{target, label_at, LabelsRead}
use Rattle.wire_names.specs.declared.error.DecodeError.{DecodeError}
use Rattle.wire_messages.proofs.lemmas.serialize.reading.LabelSteps.{no_byte, unknown}
use Rattle.wire_reading.proofs.lemmas.serialize.reading.LabelLoop.{fails_here, fails_with, fails_unless, too_many, known_here, ends_here, label_here, pointer_here, within_either}
use Rattle.wire_names.proofs.lemmas.rr.domain.WireForm.{wire-push, name_len-wire_form}
use Rattle.wire_names.specs.rr.domain.DomainName.{wire_form, cut, DomainName}
use Rattle.std.proofs.lemmas.List.{length-take, length-drop}
use Rattle.std.proofs.Common.{length-append}
use Rattle.wire_reading.proofs.serialize.reading.name_reader.read_by_labels.Goals as goal

pub returns-in_default-byte_at-clause-gives : goal.returns-in_default-byte_at-clause-gives
returns-in_default-byte_at-clause-gives c = λ _.
    let l = c.labels in
    fails_here _ _ l.after l.start l.place l.size _ _ l.invariant.so_far l.invariant.size (no_byte l.start l.place l.size (sym c.in_default-byte_at.ensures.value))

pub returns-then-high-eq0-clause-gives : goal.returns-then-high-eq0-clause-gives
returns-then-high-eq0-clause-gives c =
    let l = c.labels in
    let h : slice_get c.args.bytes.now l.place ≡ Some 0 = cc in
    let e : c.in_ok-name.name.labels ≡ l.labels = ap (λ (d : DomainName). d.labels) c.in_ok-name.ensures in
    rw (c.unwrap_or.ensures, e) (ends_here _ _ l.after l.start l.place l.size _ l.invariant.so_far l.invariant.size h)

pub returns-then-high-lt-POINTER_BITS-clause-gives : goal.returns-then-high-lt-POINTER_BITS-clause-gives
returns-then-high-lt-POINTER_BITS-clause-gives c = λ _.
    let l = c.labels in
    let n = c.from-high.result in
    let h : slice_get c.args.bytes.now l.place ≡ Some n = cc in
    fails_here _ _ l.after l.start l.place l.size _ _ l.invariant.so_far l.invariant.size (unknown l.start l.place l.size n h (omega arith) (omega arith))

pub labels-preserved-then-high-lt-LABEL_LIMIT : goal.labels-preserved-then-high-lt-LABEL_LIMIT
labels-preserved-then-high-lt-LABEL_LIMIT c =
    let l = c.labels in
    let n = c.from-high.result in
    let bytes : List ℕ = c.args.bytes.now in
    let h : slice_get bytes l.place ≡ Some n = cc in
    let end = c.in_ok-end.ensures in
    let e : c.push.new.self ≡ l.labels ++ label_at bytes l.place n ∷ [] = c.push.ensures ∙ ap (λ (k : ℕ). l.labels ++ take k (drop (l.place + 1) bytes) ∷ []) (omega (arith, end.0)) in
    let next = label_here _ _ l.after l.start l.place l.size n _ l.invariant.so_far h (omega arith) (omega arith) (omega (arith, end.0, end.1)) (omega (arith, end.2)) in
    let len : length (label_at bytes l.place n) ≡ n = omega (arith, end.0, end.1, length-take n (drop (l.place + 1) bytes), length-drop (l.place + 1) bytes) in
    let grown : length (wire_form c.push.new.self) ≡ length (wire_form l.labels) + (1 + n) =
    omega (arith, ap (λ (ls : List (List ℕ)). length (wire_form ls)) e, ap length (wire-push l.labels (label_at bytes l.place n)), length-append (wire_form l.labels) (length (label_at bytes l.place n) ∷ label_at bytes l.place n), len) in
    record { so_far = rw (e, end.0, ← add_assoc l.size 1 n) next; size = omega (arith, end.2); written = omega (arith, l.invariant.written, grown); after = l.invariant.after }

pub labels-preserved : goal.labels-preserved
labels-preserved c =
    let l = c.labels in
    let n = c.from-high.result in
    let h : slice_get c.args.bytes.now l.place ≡ Some n = cc in
    let t = c.in_ok-start.ensures in
    let lt : target n t.2.0 < l.start = omega (arith, t.0, t.2.2) in
    let e = pointer_here _ _ l.after l.start l.place l.size n t.2.0 _ l.invariant.so_far l.invariant.size h (omega arith) t.2.1 lt in
    record {
      so_far = rw (c.unwrap_or-else-high-lt-POINTER_BITS.ensures, t.2.2) e;
      size = l.invariant.size;
      written = l.invariant.written;
      after = rw c.unwrap_or-else-high-lt-POINTER_BITS.ensures (within_either l.after (l.place + 2) _ l.invariant.after (omega (arith, t.1)));
    }

pub returns-in_err-end-clause-gives : goal.returns-in_err-end-clause-gives
returns-in_err-end-clause-gives c =
    let l = c.labels in
    let total = fails_here _ _ l.after l.start l.place l.size _ _ l.invariant.so_far l.invariant.size (c.in_err-end.ensures l.start) in
    fails_with _ _ _ _ c.from_residual-in_err-end.ensures.1 total

pub returns-in_err-start-clause-gives : goal.returns-in_err-start-clause-gives
returns-in_err-start-clause-gives c =
    let l = c.labels in
    let total = fails_here _ _ l.after l.start l.place l.size _ _ l.invariant.so_far l.invariant.size (c.in_err-start.ensures l.size) in
    fails_with _ _ _ _ c.from_residual-in_err-start.ensures.1 total

pub name_with_rest-requires : goal.name_with_rest-requires
name_with_rest-requires c = (c.in-Some.ensures.rest c.args.bytes.now c.requires).is_wire

pub returns-in_err-name_with_rest-clause-gives : goal.returns-in_err-name_with_rest-clause-gives
returns-in_err-name_with_rest-clause-gives c =
    let l = c.labels in
    let r = c.in-Some.ensures.rest c.args.bytes.now c.requires in
    let len = ap length r.is_wire.whole in
    fails_unless _ c.in_err-name_with_rest.field-0.0 _ _ c.from_residual.ensures.1 (λ ne.
    let e = c.in_err-name_with_rest.ensures ne in
    let long = too_many l.size r.labels l.invariant.size (omega (arith, l.invariant.written, e.1, len, name_len-wire_form (cut c.in-Some.rest.now))) in
    fails_here _ _ l.after l.start l.place l.size _ _ l.invariant.so_far l.invariant.size long ∙ ap (λ (x : DecodeError). let y : LabelsRead = Err x in y) (sym e.0))

pub returns-in-Some-clause-gives : goal.returns-in-Some-clause-gives
returns-in-Some-clause-gives c =
    let l = c.labels in
    let r = c.in-Some.ensures.rest c.args.bytes.now c.requires in
    let len = ap length r.is_wire.whole in
    let e : c.in_ok-name_with_rest.field-0.labels ≡ l.labels ++ cut c.in-Some.rest.now = ap (λ (d : DomainName). d.labels) c.in_ok-name_with_rest.ensures.0 in
    rw e (known_here _ _ (cut c.in-Some.rest.now) l.after l.start l.place l.size c.in-Some.next r.next _ l.invariant.so_far c.in-Some.ensures.behind r.labels (omega (arith, l.invariant.written, c.in_ok-name_with_rest.ensures.1, len, name_len-wire_form (cut c.in-Some.rest.now))))
