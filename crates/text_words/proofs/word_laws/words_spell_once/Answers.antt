use Rattle.text_words.proofs.SpelledOnce.{bytes_once, names_once, strings_once, times_once}
use Rattle.text_words.proofs.word_laws.words_spell_once.Goals as goal

pub returns-clause-bytes : goal.returns-clause-bytes
returns-clause-bytes c = bytes_once

pub returns-clause-strings : goal.returns-clause-strings
returns-clause-strings c = strings_once

pub returns-clause-names : goal.returns-clause-names
returns-clause-names c = names_once

pub returns-clause-times : goal.returns-clause-times
returns-clause-times c = times_once
