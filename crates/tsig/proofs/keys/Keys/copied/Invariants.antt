-- The keys before are copied.
use Rattle.std.proofs.Common.{◌≡◌, take}
use Rattle.tsig.proofs.keys.Keys.copied.Given as goal

abbrev pub invariant-loop-key : goal.invariant-loop-key
invariant-loop-key l = l.keys ≡ take l.key-index l.self
