-- No byte differed so far, and the rest is the same, where all is the same.
use Rattle.std.proofs.Common.{◌≡◌, ◌&&◌, nat_eq, bytes_eq, drop}
use Rattle.tsig.proofs.macs.is_same_mac.Given as goal

abbrev pub invariant-loop-i : goal.invariant-loop-i
invariant-loop-i l = bytes_eq l.a l.b ≡ (nat_eq l.differences 0 && bytes_eq (drop l.i l.a) (drop l.i l.b))
