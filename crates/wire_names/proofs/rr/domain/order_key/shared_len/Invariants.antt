use Rattle.std.proofs.Common.{◌-◌, length}
use Rattle.wire_names.proofs.lemmas.rr.domain.SharedEnds.{SharedUpTo}
use Rattle.wire_names.proofs.rr.domain.order_key.shared_len.Given as goal

abbrev pub invariant-loop-place : goal.invariant-loop-place
invariant-loop-place l = SharedUpTo l.key l.other l.shared l.place

abbrev pub decreases-loop-place : goal.decreases-loop-place
decreases-loop-place l = length l.key - l.place
