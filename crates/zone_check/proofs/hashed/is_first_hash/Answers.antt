use Rattle.zone_check.proofs.HashedAnswers.{first_is}
use Rattle.zone_check.proofs.HashKeys.{eq_is}
use Rattle.zone_check.proofs.hashed.is_first_hash.Goals as goal

pub returns-in-Some : goal.returns-in-Some
returns-in-Some c = first_is c.args.zone.now c.in-Some.first.now c.args.hash.now c.eq.result c.in-Some.ensures (eq_is c.in-Some.first.now c.args.hash.now c.eq.result c.eq.ensures)
