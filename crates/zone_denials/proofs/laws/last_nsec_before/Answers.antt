use Rattle.zone_denials.proofs.lemmas.NsecsAmong.{last_nsec_is_last}
use Rattle.zone_denials.proofs.laws.last_nsec_before.Goals as goal

pub returns : goal.returns
returns c = last_nsec_is_last
