-- The sets are those of the touched names' records, and their keys are in order.
use Rattle.std.proofs.Common.{sym, subst}
use Rattle.std.specs.List.Sorted.{IsStrictlySortedBy}
use Rattle.std.specs.Map.{keys_of}
use Rattle.wire_messages.specs.rr.RrKeys.{key_cmp}
use Rattle.hickory_base.proofs.lemmas.zone_store.ZoneByName.{keys-shared}
use Rattle.hickory_store.specs.representation.SetChanges.{put_sets}
use Rattle.hickory_store.proofs.lemmas.updates.ChangedSets.{makes_now}
use Rattle.hickory_store.proofs.lemmas.file.SetsOfRecords.{Sets}
use Rattle.hickory_store.proofs.updates.changed_sets.changed_sets.Goals as goal

pub returns-clause-ordered : goal.returns-clause-ordered
returns-clause-ordered c =
    subst (λ (S : Sets). IsStrictlySortedBy key_cmp (keys_of S)) (sym c.in_ok-puts.ensures)
    (subst (IsStrictlySortedBy key_cmp) (sym (keys-shared c.in_ok-sets.sets.entries)) c.len-3.ensures.ordered)

pub returns-clause-makes : goal.returns-clause-makes
returns-clause-makes c records now =
    let sorted = subst (λ (S : Sets). IsStrictlySortedBy key_cmp (keys_of S)) c.records.ensures.sets (subst (IsStrictlySortedBy key_cmp) (sym (keys-shared c.records.result.now.entries)) c.len-2.ensures.ordered) in
    makes_now c.args.zone.now.sets c.args.touched records c.in_ok-records.records.items c.in_ok-sets.sets c.in_ok-keys.keys.items c.without_set-gone.result.items (put_sets c.in_ok-puts.puts.items)
    sorted c.records.ensures.zone c.len.ensures.ordered now c.in_ok-records.ensures c.in_ok-sets.ensures c.in_ok-keys.ensures c.without_set-gone.ensures c.in_ok-puts.ensures
