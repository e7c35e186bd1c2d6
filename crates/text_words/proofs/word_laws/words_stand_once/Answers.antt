use Rattle.text_words.proofs.WordsOnce.{stand_once}
use Rattle.text_words.proofs.word_laws.words_stand_once.Goals as goal

pub returns : goal.returns
returns c = stand_once
