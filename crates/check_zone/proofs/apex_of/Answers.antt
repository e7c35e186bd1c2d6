use Rattle.check_zone.specs.Checking.{by_name}
use Rattle.check_zone.proofs.apex_of.Goals as goal

pub returns-in-Ok-clause-spelled : goal.returns-in-Ok-clause-spelled
returns-in-Ok-clause-spelled c = by_name c.in-Ok.name c.in-Ok.ensures.ok c.set_fqdn.ensures
