-- By what is recorded of each update.
use Rattle.zones.proofs.Following.{clients_follow}
use Rattle.zones.proofs.laws.clients_follow.Goals as goal

pub returns : goal.returns
returns g c = clients_follow g.V.Verifier c.recorded_lead.ensures
