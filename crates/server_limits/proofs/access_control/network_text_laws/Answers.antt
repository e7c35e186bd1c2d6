use Rattle.server_limits.proofs.lemmas.Spelling.{one_network}
use Rattle.server_limits.proofs.access_control.network_text_laws.Goals as goal

pub returns : goal.returns
returns c = one_network
