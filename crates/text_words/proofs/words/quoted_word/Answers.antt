use Rattle.text_words.proofs.OneReading.{no_quoted}
use Rattle.text_words.proofs.words.quoted_word.Goals as goal

pub returns-in_default-clause-none : goal.returns-in_default-clause-none
returns-in_default-clause-none c = no_quoted c.args.text.now c.args.start c.in_default.ensures.none
