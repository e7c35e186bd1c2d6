use Rattle.served_zones.specs.ServedZones.{by_name}
use Rattle.served_zones.proofs.chains.apex.Goals as goal

pub returns-clause-spelled : goal.returns-clause-spelled
returns-clause-spelled c = by_name c.in_ok-name.name c.in_ok-name.ensures.ok c.set_fqdn.ensures
