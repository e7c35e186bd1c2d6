use Rattle.std.proofs.Common.{◌≡◌, ◌∙◌, ◌+◌, sym, refl, arith}
use Rattle.std.specs.Ordering.{nat_cmp}
use Rattle.std.proofs.lemmas.Iterator.{YieldsList-from_slice}
use Rattle.std.proofs.lemmas.Iterator.Search.{cmp_from_yields_List}
use Rattle.wire_names.proofs.lemmas.rr.domain.KeyWords.{Words, words_at, fewer, by_lengths}
use Rattle.wire_names.proofs.values.words.compare_bytes.Goals as goal

pub returns-then-both-lt-WORD_LEN : goal.returns-then-both-lt-WORD_LEN
returns-then-both-lt-WORD_LEN c = cmp_from_yields_List (λ x y. y ≡ x) _ nat_cmp _ c.cmp.ensures.ran (YieldsList-from_slice c.args.a.now cc) (λ it e. YieldsList-from_slice c.args.b.now cc) (λ x y. refl)

pub returns-then-x-y : goal.returns-then-x-y
returns-then-x-y c =
    let read : Words c.args.a.now c.args.b.now (c.loop-x.place + 8) c.word_at-x.result c.word_at-y.result =
    words_at c.args.a.now c.args.b.now c.loop-x.place 8 _ _ (omega arith) (omega arith) c.word_at-x.ensures.bytes c.word_at-y.ensures.bytes c.loop-x.invariant.same c.word_at-x.ensures.is c.word_at-y.ensures.is in
    c.cmp-then-x-y.ensures ∙ sym (read.apart c.if-x-y.true)

pub returns-then-place-last : goal.returns-then-place-last
returns-then-place-last c =
    let read : Words c.args.a.now c.args.b.now (c.loop-x.place + 8) c.word_at-x.result c.word_at-y.result =
    words_at c.args.a.now c.args.b.now c.loop-x.place 8 _ _ (omega arith) (omega arith) c.word_at-x.ensures.bytes c.word_at-y.ensures.bytes c.loop-x.invariant.same c.word_at-x.ensures.is c.word_at-y.ensures.is in
    c.cmp-then-place-last.ensures ∙ sym (by_lengths (c.loop-x.place + 8) c.args.a.now c.args.b.now (omega arith) (read.alike c.if-x-y.false))

pub loop-x-preserved : goal.loop-x-preserved
loop-x-preserved c =
    let read : Words c.args.a.now c.args.b.now (c.loop-x.place + 8) c.word_at-x.result c.word_at-y.result =
    words_at c.args.a.now c.args.b.now c.loop-x.place 8 _ _ (omega arith) (omega arith) c.word_at-x.ensures.bytes c.word_at-y.ensures.bytes c.loop-x.invariant.same c.word_at-x.ensures.is c.word_at-y.ensures.is in
    record { within = omega (arith, c.min-place.ensures); same = fewer c.min-place.result (c.loop-x.place + 8) c.args.a.now c.args.b.now (omega (arith, c.min-place.ensures)) (read.alike c.if-x-y.false) }
