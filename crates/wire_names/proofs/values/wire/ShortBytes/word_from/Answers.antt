use Rattle.std.proofs.Common.{ap, arith, ◌∙◌}
use Rattle.wire_names.specs.representation.OrderKey.{word_behind}
use Rattle.wire_names.proofs.lemmas.rr.domain.OrderWords.{room_word}
use Rattle.wire_names.proofs.values.wire.ShortBytes.word_from.Goals as goal

pub returns-clause-is : goal.returns-clause-is
returns-clause-is c =
    let short = c.self.inside in
    room_word short.bytes short.len c.args.place c.word_at.result (omega arith) c.self.invariant.0 c.requires c.self.invariant.1 c.word_at.ensures.is
    ∙ ap (word_behind c.args.place) c.self.view_is
