use Rattle.zone_check.proofs.ChainedZones.{faultless_zones_are_chained}
use Rattle.zone_check.proofs.laws.faultless_zones_are_chained.Goals as goal

pub returns : goal.returns
returns c = faultless_zones_are_chained
