use Rattle.std.proofs.Common.{arith, ◌≡◌, ◌∙◌, take, refl, sym}
use Rattle.wire_names.proofs.lemmas.rr.domain.KeyWords.{Words, words_at, fewer}
use Rattle.wire_names.proofs.lemmas.rr.domain.PaddedBytes.{last_words}
use Rattle.wire_names.proofs.values.wire.compare_words.Goals as goal

pub returns-then-x-y : goal.returns-then-x-y
returns-then-x-y c =
    let read : Words c.args.a.now c.args.b.now 8 c.word_at-x.result c.word_at-y.result =
    words_at c.args.a.now c.args.b.now 0 8 _ _ (omega arith) (omega arith) c.word_at-x.ensures.bytes c.word_at-y.ensures.bytes refl c.word_at-x.ensures.is c.word_at-y.ensures.is in
    c.cmp.ensures ∙ sym (read.apart c.if-x-y.true)

pub returns-then-x-y-2 : goal.returns-then-x-y-2
returns-then-x-y-2 c =
    let first : Words c.args.a.now c.args.b.now 8 c.word_at-x.result c.word_at-y.result =
    words_at c.args.a.now c.args.b.now 0 8 _ _ (omega arith) (omega arith) c.word_at-x.ensures.bytes c.word_at-y.ensures.bytes refl c.word_at-x.ensures.is c.word_at-y.ensures.is in
    let read : Words c.args.a.now c.args.b.now 16 c.word_at-x-2.result c.word_at-y-2.result =
    words_at c.args.a.now c.args.b.now 8 8 _ _ (omega arith) (omega arith) c.word_at-x.ensures.bytes c.word_at-y.ensures.bytes (first.alike c.if-x-y.false) c.word_at-x-2.ensures.is c.word_at-y-2.ensures.is in
    c.cmp-then-x-y-2.ensures ∙ sym (read.apart c.if-x-y-2.true)

pub returns-then-x-y-3 : goal.returns-then-x-y-3
returns-then-x-y-3 c =
    let first : Words c.args.a.now c.args.b.now 8 c.word_at-x.result c.word_at-y.result =
    words_at c.args.a.now c.args.b.now 0 8 _ _ (omega arith) (omega arith) c.word_at-x.ensures.bytes c.word_at-y.ensures.bytes refl c.word_at-x.ensures.is c.word_at-y.ensures.is in
    let second : Words c.args.a.now c.args.b.now 16 c.word_at-x-2.result c.word_at-y-2.result =
    words_at c.args.a.now c.args.b.now 8 8 _ _ (omega arith) (omega arith) c.word_at-x.ensures.bytes c.word_at-y.ensures.bytes (first.alike c.if-x-y.false) c.word_at-x-2.ensures.is c.word_at-y-2.ensures.is in
    let read : Words c.args.a.now c.args.b.now 24 c.word_at-x-3.result c.word_at-y-3.result =
    words_at c.args.a.now c.args.b.now 16 8 _ _ (omega arith) (omega arith) c.word_at-x.ensures.bytes c.word_at-y.ensures.bytes (second.alike c.if-x-y-2.false) c.word_at-x-3.ensures.is c.word_at-y-3.ensures.is in
    c.cmp-then-x-y-3.ensures ∙ sym (read.apart c.if-x-y-3.true)

pub returns : goal.returns
returns c =
    let first : Words c.args.a.now c.args.b.now 8 c.word_at-x.result c.word_at-y.result =
    words_at c.args.a.now c.args.b.now 0 8 _ _ (omega arith) (omega arith) c.word_at-x.ensures.bytes c.word_at-y.ensures.bytes refl c.word_at-x.ensures.is c.word_at-y.ensures.is in
    let second : Words c.args.a.now c.args.b.now 16 c.word_at-x-2.result c.word_at-y-2.result =
    words_at c.args.a.now c.args.b.now 8 8 _ _ (omega arith) (omega arith) c.word_at-x.ensures.bytes c.word_at-y.ensures.bytes (first.alike c.if-x-y.false) c.word_at-x-2.ensures.is c.word_at-y-2.ensures.is in
    let third : Words c.args.a.now c.args.b.now 24 c.word_at-x-3.result c.word_at-y-3.result =
    words_at c.args.a.now c.args.b.now 16 8 _ _ (omega arith) (omega arith) c.word_at-x.ensures.bytes c.word_at-y.ensures.bytes (second.alike c.if-x-y-2.false) c.word_at-x-3.ensures.is c.word_at-y-3.ensures.is in
    let front : take 22 c.args.a.now ≡ take 22 c.args.b.now = fewer 22 24 c.args.a.now c.args.b.now (omega arith) (third.alike c.if-x-y-3.false) in
    c.cmp-2.ensures
    ∙ last_words 30 c.args.a.now c.args.b.now _ _ (omega arith) (omega arith)
    (words_at c.args.a.now c.args.b.now 22 8 _ _ (omega arith) (omega arith) c.word_at-x.ensures.bytes c.word_at-y.ensures.bytes front c.word_at.ensures.is c.word_at-2.ensures.is)
