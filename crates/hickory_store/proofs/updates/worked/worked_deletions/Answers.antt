use Rattle.std.proofs.Common.{refl}
use Rattle.hickory_store.specs.updates.Changes.{after_record, changes}
use Rattle.hickory_store.proofs.updates.worked.worked_deletions.Goals as goal

pub returns-clause-all_of_the_apex : goal.returns-clause-all_of_the_apex
unfolding after_record changes
returns-clause-all_of_the_apex c = refl

pub returns-clause-last_serial : goal.returns-clause-last_serial
unfolding after_record changes
returns-clause-last_serial c = refl

pub returns-clause-soa_of_the_apex : goal.returns-clause-soa_of_the_apex
unfolding after_record changes
returns-clause-soa_of_the_apex c = refl

pub returns-clause-rrset : goal.returns-clause-rrset
unfolding after_record changes
returns-clause-rrset c = refl

pub returns-clause-other_type : goal.returns-clause-other_type
unfolding after_record changes
returns-clause-other_type c = refl

pub returns-clause-record : goal.returns-clause-record
unfolding after_record changes
returns-clause-record c = refl

pub returns-clause-only_ns : goal.returns-clause-only_ns
unfolding after_record changes
returns-clause-only_ns c = refl

pub returns-clause-soa : goal.returns-clause-soa
unfolding after_record changes
returns-clause-soa c = refl

pub returns-clause-one_of_two_ns : goal.returns-clause-one_of_two_ns
unfolding after_record changes
returns-clause-one_of_two_ns c = refl

pub returns-clause-comes_and_goes : goal.returns-clause-comes_and_goes
unfolding after_record changes
returns-clause-comes_and_goes c = refl

pub returns-clause-replayed : goal.returns-clause-replayed
unfolding after_record changes
returns-clause-replayed c = refl
