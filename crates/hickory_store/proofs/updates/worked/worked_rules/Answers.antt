use Rattle.std.proofs.Common.{refl}
use Rattle.hickory_store.specs.updates.Changes.{after_record, changes}
use Rattle.hickory_store.proofs.updates.worked.worked_rules.Goals as goal

pub returns-clause-one_ttl : goal.returns-clause-one_ttl
unfolding after_record changes
returns-clause-one_ttl c = refl

pub returns-clause-two_ttls : goal.returns-clause-two_ttls
unfolding after_record changes
returns-clause-two_ttls c = refl

pub returns-clause-there : goal.returns-clause-there
unfolding after_record changes
returns-clause-there c = refl

pub returns-clause-there_with_ttl : goal.returns-clause-there_with_ttl
unfolding after_record changes
returns-clause-there_with_ttl c = refl

pub returns-clause-there_beside : goal.returns-clause-there_beside
unfolding after_record changes
returns-clause-there_beside c = refl

pub returns-clause-there_beside_in_crate : goal.returns-clause-there_beside_in_crate
unfolding after_record changes
returns-clause-there_beside_in_crate c = refl

pub returns-clause-large_ttl : goal.returns-clause-large_ttl
unfolding after_record changes
returns-clause-large_ttl c = refl

pub returns-clause-largest_ttl : goal.returns-clause-largest_ttl
unfolding after_record changes
returns-clause-largest_ttl c = refl

pub returns-clause-large_ttl_in_crate : goal.returns-clause-large_ttl_in_crate
unfolding after_record changes
returns-clause-large_ttl_in_crate c = refl

pub returns-clause-delegation : goal.returns-clause-delegation
unfolding after_record changes
returns-clause-delegation c = refl

pub returns-clause-delegation_in_crate : goal.returns-clause-delegation_in_crate
unfolding after_record changes
returns-clause-delegation_in_crate c = refl

pub returns-clause-apex_ns : goal.returns-clause-apex_ns
unfolding after_record changes
returns-clause-apex_ns c = refl
