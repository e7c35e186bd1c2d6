use Rattle.std.proofs.Common.{arith}
use Rattle.server.proofs.WorkedRuns.{of_ok}
use Rattle.server.proofs.worked.worked_size.Goals as goal

pub returns-clause-taken : goal.returns-clause-taken
returns-clause-taken c = c.set_max_udp.ensures.taken.1 (omega arith)

pub returns-clause-size : goal.returns-clause-size
returns-clause-size c = of_ok c.set_max_udp.result (c.set_max_udp.ensures.taken.1 (omega arith)) c.set_max_udp.ensures.ok
