use Rattle.name_lists.proofs.OneList.{counts_sum}
use Rattle.name_lists.proofs.laws.counts_add_up.Goals as goal

pub returns : goal.returns
returns c = counts_sum
