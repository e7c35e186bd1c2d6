use Rattle.zone_check.proofs.HashedChains.{faultless_zones_are_hashed}
use Rattle.zone_check.proofs.laws.faultless_zones_are_hashed.Goals as goal

pub returns : goal.returns
returns c = faultless_zones_are_hashed
