use Rattle.name_lists.proofs.OneList.{one_adapted}
use Rattle.name_lists.proofs.laws.a_text_is_adapted_in_one_way.Goals as goal

pub returns : goal.returns
returns c = one_adapted
