use Rattle.std.proofs.Common.{Some, ap, rules}
use Rattle.server.specs.Limited.{limited}
use Rattle.server.proofs.limiting.limit.Goals as goal

pub returns-clause-limited : goal.returns-clause-limited
returns-clause-limited c = limited c.in-Some.limits (search rules) (search rules) (search rules) c.limit_reply.ensures.limited (ap Some c.limit_reply.ensures.counted)
