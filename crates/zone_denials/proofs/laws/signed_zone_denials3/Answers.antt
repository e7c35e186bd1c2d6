use Rattle.zone_denials.proofs.lemmas.SignedZones3.{cuts_are_proved3, cuts_left_out_are_proved3, names_are_denied3, types_are_denied3, wild_types_are_denied3, wildcards_are_proved3}
use Rattle.zone_denials.proofs.laws.signed_zone_denials3.Goals as goal

pub returns-clause-names : goal.returns-clause-names
returns-clause-names c = names_are_denied3

pub returns-clause-wildcards : goal.returns-clause-wildcards
returns-clause-wildcards c = wildcards_are_proved3

pub returns-clause-types : goal.returns-clause-types
returns-clause-types c = types_are_denied3

pub returns-clause-wild_types : goal.returns-clause-wild_types
returns-clause-wild_types c = wild_types_are_denied3

pub returns-clause-cuts : goal.returns-clause-cuts
returns-clause-cuts c = cuts_are_proved3

pub returns-clause-left_out : goal.returns-clause-left_out
returns-clause-left_out c = cuts_left_out_are_proved3
