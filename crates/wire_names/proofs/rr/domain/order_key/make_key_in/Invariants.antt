use Rattle.std.proofs.Common.{length, ◌-◌}
use Rattle.wire_names.specs.rr.domain.DomainName.{cut}
use Rattle.wire_names.proofs.lemmas.rr.domain.OrderKeys.{KeyMade}
use Rattle.wire_names.proofs.rr.domain.order_key.make_key_in.Given as goal

abbrev pub invariant-loop-place : goal.invariant-loop-place
invariant-loop-place l = KeyMade (cut l.wire) l.place l.start l.room

abbrev pub decreases-loop-place : goal.decreases-loop-place
decreases-loop-place l = length l.wire - l.place
