use Rattle.zone_check.proofs.HashKeys.{last_earlier, none_earlier}
use Rattle.zone_check.proofs.hashes.earlier_hash.Goals as goal

pub returns-in-Some : goal.returns-in-Some
returns-in-Some c = last_earlier c.args.hashes.now c.args.hash.now _ _ _ (c.range.ensures.in_range tt) c.in-Some.ensures.steps

pub returns-in-None : goal.returns-in-None
returns-in-None c = none_earlier c.args.hashes.now c.args.hash.now c.range.result (c.range.ensures.in_range tt) c.in-None.ensures.steps.0
