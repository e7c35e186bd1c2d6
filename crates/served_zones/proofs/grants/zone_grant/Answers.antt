use Rattle.std.proofs.Common.{rules}
use Rattle.served_zones.proofs.grants.zone_grant.Goals as goal

pub returns : goal.returns
returns c = record { apex = c.in_ok-apex.ensures; spelled = c.in_ok-rule.ensures; known = search rules }
