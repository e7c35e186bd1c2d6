use Rattle.zone_check.proofs.NextOwners.{first_later, none_later}
use Rattle.zone_check.proofs.index.later_owner.Goals as goal

pub returns-in-Some : goal.returns-in-Some
returns-in-Some c = λ records has. first_later records c.args.nsecs.now c.args.name has (c.range.ensures.in_range tt) c.in-Some.ensures.steps

pub returns-in-None : goal.returns-in-None
returns-in-None c = λ records has. none_later records c.args.nsecs.now c.args.name c.range.result has (c.range.ensures.in_range tt) c.in-None.ensures.steps.0
