use Rattle.std.proofs.Common.{◌≡◌, ◌+◌, ◌-◌, length}
use Rattle.wire_names.specs.rr.domain.DomainName.{cut}
use Rattle.wire_names.proofs.lemmas.rr.domain.OrderKeys.{KeyMade}
use Rattle.wire_names.proofs.rr.domain.order_key.fill_plain_key.Given as goal

abbrev pub invariant-loop-place : goal.invariant-loop-place
invariant-loop-place l = record {
  made : KeyMade (cut l.wire) l.place l.start l.room;
  exact : l.start + l.place ≡ length l.wire;
}

abbrev pub decreases-loop-place : goal.decreases-loop-place
decreases-loop-place l = length l.wire - l.place
