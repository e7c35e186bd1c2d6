use Rattle.server.proofs.WorkedRuns.{none_at_0, then_ok}
use Rattle.server.proofs.worked.worked_rate.Goals as goal

pub returns : goal.returns
returns c = then_ok c.set_rate_limit.result c.set_rate_limit.ensures.ok (none_at_0 2 c.set_rate_limit.new.self.limits)
