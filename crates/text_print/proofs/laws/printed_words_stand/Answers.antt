use Rattle.text_print.proofs.Standing.{stand}
use Rattle.text_print.proofs.laws.printed_words_stand.Goals as goal

pub returns : goal.returns
returns c = stand
