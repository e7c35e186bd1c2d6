use Rattle.zone_denials.proofs.lemmas.Nsec3Chains.{missing_names_are_denied3, unsigned_zones_are_shown3, wild_types_are_denied3, wildcards_are_shown3}
use Rattle.zone_denials.proofs.laws.nsec3_denials.Goals as goal

pub returns-clause-missing : goal.returns-clause-missing
returns-clause-missing c = missing_names_are_denied3

pub returns-clause-wildcards : goal.returns-clause-wildcards
returns-clause-wildcards c = wildcards_are_shown3

pub returns-clause-wild_types : goal.returns-clause-wild_types
returns-clause-wild_types c = wild_types_are_denied3

pub returns-clause-unsigned : goal.returns-clause-unsigned
returns-clause-unsigned c = unsigned_zones_are_shown3
