-- The copies are the records of the items so far.
use Rattle.std.proofs.Common.{◌≡◌, map}
use Rattle.hickory_server.proofs.server.sending.gathered.Given as goal

abbrev pub invariant-records : goal.invariant-records
invariant-records g l =
    (goal.iterator-records g).can_next l.item-iterator × (goal.iterator-records g).is_finite l.item-iterator
    × (l.copies.items ≡ map g.I.Item.RecordRef.record_of l.yielded)
