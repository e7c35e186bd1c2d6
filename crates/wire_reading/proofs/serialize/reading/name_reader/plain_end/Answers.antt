use Rattle.std.proofs.Common.{arith, ◌≡◌, ◌∙◌, ◌<◌, ◌+◌, ap, sym, subst, ℕ, List, Some, length}
use Rattle.std.specs.Prelude.{slice_get}
use Rattle.wire_reading.proofs.lemmas.serialize.reading.PlainNames.{IsPlain, plain_begins, plain_label, plain_ends}
use Rattle.wire_reading.proofs.serialize.reading.name_reader.plain_end.Goals as goal

pub loop-place-init : goal.loop-place-init
loop-place-init c = record { order = omega arith; plain = λ short inside. plain_begins _ _ }

pub loop-place-preserved : goal.loop-place-preserved
loop-place-preserved c =
    let bytes : List ℕ = c.args.bytes.now in
    let place : ℕ = c.loop-place.place in
    let n : ℕ = c.from-high.result in
    let inside : place < length bytes = c.in_ok-byte_at.ensures.in_range in
    let short : place < c.args.from + 255 = omega (arith, c.loop-place.invariant.order) in
    let h : slice_get bytes place ≡ Some n = sym c.in_ok-byte_at.ensures.value ∙ ap Some (sym c.from-high.ensures) in
    let behind : place + 1 + n ≡ place + (1 + n) = omega arith in
    record {
      order = omega (arith, c.loop-place.invariant.order);
      plain = λ fits there. subst (IsPlain bytes c.args.from) behind
          (plain_label bytes c.args.from place n (c.loop-place.invariant.plain short inside) h (omega arith) (omega arith) (omega (arith, there)) (omega (arith, fits)));
    }

pub returns-then-high-eq0-clause-reads : goal.returns-then-high-eq0-clause-reads
returns-then-high-eq0-clause-reads c =
    let bytes : List ℕ = c.args.bytes.now in
    let place : ℕ = c.loop-place.place in
    let inside : place < length bytes = c.in_ok-byte_at.ensures.in_range in
    let short : place < c.args.from + 255 = omega (arith, c.loop-place.invariant.order) in
    let h : slice_get bytes place ≡ Some 0 = sym c.in_ok-byte_at.ensures.value ∙ ap Some (sym c.from-high.ensures ∙ c.if-high-eq0.true) in
    plain_ends bytes c.args.from place (c.loop-place.invariant.plain short inside) h (omega (arith, short))
