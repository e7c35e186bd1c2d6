use Rattle.notices.proofs.Standing.{notice_short, notice_stands}
use Rattle.notices.proofs.laws.notices_are_read.Goals as goal

pub returns-clause-read : goal.returns-clause-read
returns-clause-read c = λ id ttl zone soa f. notice_stands id ttl zone soa f

pub returns-clause-short : goal.returns-clause-short
returns-clause-short c = λ id ttl zone soa a. notice_short id ttl zone soa a
