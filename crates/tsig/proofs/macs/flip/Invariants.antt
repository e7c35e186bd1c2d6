-- The bytes before are flipped.
use Rattle.std.proofs.Common.{◌≡◌, ◌++◌, map, take, drop, bit_xor}
use Rattle.tsig.proofs.macs.flip.Given as goal

abbrev pub invariant-loop-b : goal.invariant-loop-b
invariant-loop-b l = l.bytes ≡ map (λ b. bit_xor b l.pad) (take l.b-index l.fn.bytes) ++ drop l.b-index l.fn.bytes
