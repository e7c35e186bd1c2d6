use Rattle.zone_denials.proofs.lemmas.NsecChains.{empty_names_are_denied, missing_names_are_denied, wildcards_are_shown}
use Rattle.zone_denials.proofs.laws.nsec_denials.Goals as goal

pub returns-clause-missing : goal.returns-clause-missing
returns-clause-missing c = missing_names_are_denied

pub returns-clause-wildcards : goal.returns-clause-wildcards
returns-clause-wildcards c = wildcards_are_shown

pub returns-clause-empty : goal.returns-clause-empty
returns-clause-empty c = empty_names_are_denied
