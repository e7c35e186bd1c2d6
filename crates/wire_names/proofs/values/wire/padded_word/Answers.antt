use Rattle.std.proofs.Common.{ℕ, List, ap, zero, length, take, drop, replicate, refl, ◌++◌, ◌-◌}
use Rattle.wire_names.proofs.lemmas.rr.domain.OrderWords.{tail_word}
use Rattle.wire_names.proofs.values.wire.padded_word.Goals as goal

pub returns-clause-is : goal.returns-clause-is
returns-clause-is c =
    let bytes = c.args.bytes.now in
    let rest = take (length bytes - c.min.result) (drop c.min.result bytes) in
    tail_word bytes rest (c.copy_from_slice.new.self ++ drop (length rest) (replicate 8 zero)) c.args.place c.min.result c.word_at-2.result c.min.ensures refl c.if-rest-ge-WORD_LEN.false
    (ap (λ (xs : List ℕ). xs ++ drop (length rest) (replicate 8 zero)) c.copy_from_slice.ensures.after) c.word_at-2.ensures.is
