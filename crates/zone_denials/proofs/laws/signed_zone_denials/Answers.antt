use Rattle.zone_denials.proofs.lemmas.SignedZones.{cuts_are_proved, empty_names_are_proved, names_are_denied, owners_are_linked, types_are_denied, wild_types_are_denied, wildcards_are_proved}
use Rattle.zone_denials.proofs.laws.signed_zone_denials.Goals as goal

pub returns-clause-names : goal.returns-clause-names
returns-clause-names c = names_are_denied

pub returns-clause-wildcards : goal.returns-clause-wildcards
returns-clause-wildcards c = wildcards_are_proved

pub returns-clause-types : goal.returns-clause-types
returns-clause-types c = types_are_denied

pub returns-clause-wild_types : goal.returns-clause-wild_types
returns-clause-wild_types c = wild_types_are_denied

pub returns-clause-empty : goal.returns-clause-empty
returns-clause-empty c = empty_names_are_proved

pub returns-clause-cuts : goal.returns-clause-cuts
returns-clause-cuts c = cuts_are_proved

pub returns-clause-owners : goal.returns-clause-owners
returns-clause-owners c = owners_are_linked
