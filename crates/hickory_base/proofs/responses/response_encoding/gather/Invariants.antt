use Rattle.std.proofs.Common.{◌≡◌}
use Rattle.hickory_base.specs.representation.LenderLists.{CanLend, lender_list}
use Rattle.hickory_base.proofs.responses.response_encoding.gather.Given as goal

abbrev pub invariant-records : goal.invariant-records
invariant-records g l =
    (goal.iterator-records g).can_next l.item-iterator × (goal.iterator-records g).is_finite l.item-iterator
    × (lender_list l.lenders ≡ l.yielded) × CanLend g.row.I-Item l.lenders
