use Rattle.signed_answers.proofs.lemmas.ZoneAnswersShown.{name_errors_are_proved, no_data_is_proved, referrals_are_proved, wild_aliases_are_proved, wild_answers_are_proved}
use Rattle.signed_answers.proofs.laws.answers_of_signed_zones.Goals as goal

pub returns-clause-missing : goal.returns-clause-missing
returns-clause-missing c = name_errors_are_proved

pub returns-clause-wild : goal.returns-clause-wild
returns-clause-wild c = wild_answers_are_proved

pub returns-clause-aliases : goal.returns-clause-aliases
returns-clause-aliases c = wild_aliases_are_proved

pub returns-clause-no_data : goal.returns-clause-no_data
returns-clause-no_data c = no_data_is_proved

pub returns-clause-referrals : goal.returns-clause-referrals
returns-clause-referrals c = referrals_are_proved
