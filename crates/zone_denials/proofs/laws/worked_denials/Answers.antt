use Rattle.zone_denials.proofs.lemmas.WorkedReplies.{name_error, no_data, unsigned_zone, wildcard_expansion, wildcard_no_data}
use Rattle.zone_denials.proofs.laws.worked_denials.Goals as goal

pub returns-clause-name_error : goal.returns-clause-name_error
returns-clause-name_error c = name_error

pub returns-clause-no_data : goal.returns-clause-no_data
returns-clause-no_data c = no_data

pub returns-clause-unsigned : goal.returns-clause-unsigned
returns-clause-unsigned c = unsigned_zone

pub returns-clause-expansion : goal.returns-clause-expansion
returns-clause-expansion c = wildcard_expansion

pub returns-clause-wild_no_data : goal.returns-clause-wild_no_data
returns-clause-wild_no_data c = wildcard_no_data
