use Rattle.name_lists.proofs.Splitting.{first_line}
use Rattle.name_lists.proofs.words.split_line.Goals as goal

pub returns : goal.returns
returns c = (first_line c.args.text.now c.in-Some.line.now c.in-Some.behind.now c.in-Some.ensures.0, c.in-Some.ensures.1)
