use Rattle.zone_denials.proofs.lemmas.HashedZone.{hashed_zone_is_chained}
use Rattle.zone_denials.proofs.lemmas.SmallZone.{small_zone_is_chained}
use Rattle.zone_denials.proofs.laws.worked_signed_zone.Goals as goal

pub returns-clause-nsec : goal.returns-clause-nsec
returns-clause-nsec c = small_zone_is_chained

pub returns-clause-nsec3 : goal.returns-clause-nsec3
returns-clause-nsec3 c = hashed_zone_is_chained
