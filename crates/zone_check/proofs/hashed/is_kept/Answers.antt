use Rattle.zone_check.proofs.HashedAnswers.{kept_is}
use Rattle.zone_check.specs.HashedZones.{IsOptedOut, MayBeLeftOut}
use Rattle.zone_check.proofs.hashed.is_kept.Goals as goal

pub returns : goal.returns
returns c = kept_is c.in_ok-may_be.may_be (MayBeLeftOut c.args.zone.now c.args.owner.now) (IsOptedOut c.args.zone.now c.args.hash.now) (c.in_ok-is_opted_out.ensures.0 c.if-not-branch.false) c.in_ok-may_be.ensures
