use Rattle.zone_denials.proofs.lemmas.WorkedReplies.{empty_no_data3, name_error3, no_data3, unsigned_zone3, wildcard_expansion3, wildcard_no_data3}
use Rattle.zone_denials.proofs.laws.worked_denials3.Goals as goal

pub returns-clause-name_error : goal.returns-clause-name_error
returns-clause-name_error c = name_error3

pub returns-clause-no_data : goal.returns-clause-no_data
returns-clause-no_data c = no_data3

pub returns-clause-empty : goal.returns-clause-empty
returns-clause-empty c = empty_no_data3

pub returns-clause-unsigned : goal.returns-clause-unsigned
returns-clause-unsigned c = unsigned_zone3

pub returns-clause-expansion : goal.returns-clause-expansion
returns-clause-expansion c = wildcard_expansion3

pub returns-clause-wild_no_data : goal.returns-clause-wild_no_data
returns-clause-wild_no_data c = wildcard_no_data3
