use Rattle.std.proofs.Common.{arith, refl}
use Rattle.std.proofs.lemmas.Bool.{eqb-true}
use Rattle.wire_names.proofs.lemmas.rr.domain.KeyWords.{words_at}
use Rattle.wire_names.proofs.values.same_bytes.may_be_same.Goals as goal

pub returns-else-a-lt-WORD_LEN-clause-front : goal.returns-else-a-lt-WORD_LEN-clause-front
returns-else-a-lt-WORD_LEN-clause-front c long t =
    (words_at c.args.a.now c.args.b.now 0 8 _ _ (omega arith) (omega (arith, c.requires)) c.word_at.ensures.bytes c.word_at-else-a-lt-WORD_LEN.ensures.bytes refl c.word_at.ensures.is c.word_at-else-a-lt-WORD_LEN.ensures.is).alike
    (eqb-true c.word_at.result c.word_at-else-a-lt-WORD_LEN.result t)
