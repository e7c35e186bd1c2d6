use Rattle.std.proofs.Common.{refl}
use Rattle.hickory_store.specs.updates.Changes.{after_record, changes}
use Rattle.hickory_store.proofs.updates.worked.worked_additions.Goals as goal

pub returns-clause-same : goal.returns-clause-same
unfolding after_record changes
returns-clause-same c = refl

pub returns-clause-other_ttl : goal.returns-clause-other_ttl
unfolding after_record changes
returns-clause-other_ttl c = refl

pub returns-clause-added : goal.returns-clause-added
unfolding after_record changes
returns-clause-added c = refl

pub returns-clause-added_in_replay : goal.returns-clause-added_in_replay
unfolding after_record changes
returns-clause-added_in_replay c = refl

pub returns-clause-same_soa : goal.returns-clause-same_soa
unfolding after_record changes
returns-clause-same_soa c = refl

pub returns-clause-far_soa : goal.returns-clause-far_soa
unfolding after_record changes
returns-clause-far_soa c = refl

pub returns-clause-next_soa : goal.returns-clause-next_soa
unfolding after_record changes
returns-clause-next_soa c = refl

pub returns-clause-soas : goal.returns-clause-soas
unfolding after_record changes
returns-clause-soas c = refl

pub returns-clause-soa_below : goal.returns-clause-soa_below
unfolding after_record changes
returns-clause-soa_below c = refl

pub returns-clause-cname_beside : goal.returns-clause-cname_beside
unfolding after_record changes
returns-clause-cname_beside c = refl

pub returns-clause-cname : goal.returns-clause-cname
unfolding after_record changes
returns-clause-cname c = refl

pub returns-clause-no_soa : goal.returns-clause-no_soa
unfolding after_record changes
returns-clause-no_soa c = refl
