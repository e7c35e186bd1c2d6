use Rattle.zone_denials.proofs.lemmas.Nsec3Sound.{denied_names_are_missing3, denied_types_are_missing3, unsigned_zones_are_cuts3, wildcards_are_true3}
use Rattle.zone_denials.proofs.laws.nsec3_truth.Goals as goal

pub returns-clause-names : goal.returns-clause-names
returns-clause-names c = denied_names_are_missing3

pub returns-clause-wildcards : goal.returns-clause-wildcards
returns-clause-wildcards c = wildcards_are_true3

pub returns-clause-types : goal.returns-clause-types
returns-clause-types c = denied_types_are_missing3

pub returns-clause-cuts : goal.returns-clause-cuts
returns-clause-cuts c = unsigned_zones_are_cuts3
