use Rattle.zone_check.proofs.HashKeys.{first_later, none_later}
use Rattle.zone_check.proofs.hashes.later_hash.Goals as goal

pub returns-in-Some : goal.returns-in-Some
returns-in-Some c = first_later c.args.hashes.now c.args.hash.now (c.range.ensures.in_range tt) c.in-Some.ensures.steps

pub returns-in-None : goal.returns-in-None
returns-in-None c = none_later c.args.hashes.now c.args.hash.now c.range.result (c.range.ensures.in_range tt) c.in-None.ensures.steps.0
