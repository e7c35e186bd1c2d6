use Rattle.std.proofs.Common.{◌≡◌, ◌-◌, take}
use Rattle.wire_names.proofs.values.same_bytes.have_same_rest.Given as goal

abbrev pub invariant-loop-place : goal.invariant-loop-place
invariant-loop-place l = take l.place l.a ≡ take l.place l.b

abbrev pub decreases-loop-place : goal.decreases-loop-place
decreases-loop-place l = l.last - l.place
