use Rattle.zone_check.proofs.HashedAnswers.{later_is}
use Rattle.zone_check.proofs.HashKeys.{eq_is}
use Rattle.zone_check.proofs.hashed.is_next_hash.Goals as goal

pub returns-in-Some : goal.returns-in-Some
returns-in-Some c = later_is c.args.zone.now c.args.hash.now c.in-Some.later.now c.args.next.now c.eq.result c.in-Some.ensures (eq_is c.in-Some.later.now c.args.next.now c.eq.result c.eq.ensures)
