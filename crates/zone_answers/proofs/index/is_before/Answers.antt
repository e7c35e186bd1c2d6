use Rattle.std.proofs.Common.{get_or}
use Rattle.zone_answers.proofs.lemmas.zones.Indexed.{by_words, word_there}
use Rattle.zone_answers.proofs.index.is_before.Goals as goal

pub returns-else-other-word : goal.returns-else-other-word
returns-else-other-word c =
    λ apex e all word is.
    by_words apex e.0 c.args.first.now (get_or c.args.words.now c.args.place 0) c.args.word (word_there apex c.args.entries.now c.args.words.now c.args.place e all is) word c.if-other-word.false
