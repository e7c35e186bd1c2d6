use Rattle.std.proofs.Common.{rules, arith, ◌≡◌, ◌+◌, ◌-◌, length, take, drop, sym, ap, ◌∙◌}
use Rattle.std.specs.Slice.Scan.{big_endian}
use Rattle.std.proofs.lemmas.Bool.{eqb-true}
use Rattle.wire_names.proofs.lemmas.rr.domain.KeyWords.{Words, words_at, fewer}
use Rattle.wire_names.proofs.lemmas.values.SameBytes.{same_whole}
use Rattle.wire_names.proofs.values.same_bytes.have_same_rest.Goals as goal

pub loop-place-preserved : goal.loop-place-preserved
loop-place-preserved c =
    let read : Words c.args.a.now c.args.b.now (c.loop-place.place + 8) c.word_at.result c.word_at-in-loop-place.result =
    words_at c.args.a.now c.args.b.now c.loop-place.place 8 _ _ (omega arith) (omega (arith, c.requires.len)) c.word_at.ensures.bytes c.word_at-in-loop-place.ensures.bytes c.loop-place.invariant c.word_at.ensures.is c.word_at-in-loop-place.ensures.is in
    read.alike c.if-word_at.false

pub returns : goal.returns
returns c =
    let a = c.args.a.now in
    let b = c.args.b.now in
    let last = length a - 8 in
    let front : take last a ≡ take last b = fewer last c.loop-place.place a b (omega (arith, c.loop-place-test.false)) c.loop-place.invariant in
    let read : Words a b (last + 8) c.word_at-2.result c.word_at-3.result =
    words_at a b last 8 _ _ (omega arith) (omega (arith, c.requires.len)) c.word_at-2.ensures.bytes c.word_at-3.ensures.bytes front c.word_at-2.ensures.is c.word_at-3.ensures.is in (
      λ t. same_whole (last + 8) a b c.requires.len (omega arith) (read.alike (eqb-true c.word_at-2.result c.word_at-3.result t)),
      λ e. let same : c.word_at-2.result ≡ c.word_at-3.result = c.word_at-2.ensures.is ∙ ap (λ s. big_endian 0 (take 8 (drop last s))) e ∙ sym c.word_at-3.ensures.is in search rules,
    )
