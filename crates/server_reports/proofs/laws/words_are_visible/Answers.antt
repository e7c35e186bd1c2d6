use Rattle.server_reports.proofs.Visible.{in_name, in_numbers}
use Rattle.server_reports.proofs.laws.words_are_visible.Goals as goal

pub returns : goal.returns
returns c = (in_name, in_numbers)
