use Rattle.hickory_catalog.proofs.lemmas.queries.ForwardedReplies.{authenticated, carries_soa, nothing_bogus, on_demand}
use Rattle.hickory_catalog.proofs.laws.forwarded_replies.Goals as goal

pub returns-clause-authentic : goal.returns-clause-authentic
returns-clause-authentic c = authenticated

pub returns-clause-bogus : goal.returns-clause-bogus
returns-clause-bogus c = nothing_bogus

pub returns-clause-dnssec : goal.returns-clause-dnssec
returns-clause-dnssec c = on_demand

pub returns-clause-soa : goal.returns-clause-soa
returns-clause-soa c = carries_soa
