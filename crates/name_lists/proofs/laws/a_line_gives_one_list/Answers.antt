use Rattle.name_lists.proofs.OneList.{one_list}
use Rattle.name_lists.proofs.laws.a_line_gives_one_list.Goals as goal

pub returns : goal.returns
returns c = one_list
