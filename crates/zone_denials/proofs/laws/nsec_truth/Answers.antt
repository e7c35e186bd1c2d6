use Rattle.zone_denials.proofs.lemmas.NsecSound.{denied_names_are_missing, denied_types_are_missing, unsigned_zones_are_cuts, wildcards_are_true}
use Rattle.zone_denials.proofs.laws.nsec_truth.Goals as goal

pub returns-clause-names : goal.returns-clause-names
returns-clause-names c = denied_names_are_missing

pub returns-clause-wildcards : goal.returns-clause-wildcards
returns-clause-wildcards c = wildcards_are_true

pub returns-clause-types : goal.returns-clause-types
returns-clause-types c = denied_types_are_missing

pub returns-clause-cuts : goal.returns-clause-cuts
returns-clause-cuts c = unsigned_zones_are_cuts
