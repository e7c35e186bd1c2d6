-- The octets before the place are done.
use Rattle.std.proofs.Common.{◌≡◌, ◌++◌, take, drop}
use Rattle.calling.specs.Hmac.{padded}
use Rattle.calling.proofs.hmac.padded.Given as goal

abbrev pub invariant-octets : goal.invariant-octets
invariant-octets l = l.padded ≡ padded l.octet (take l.i l.block) ++ drop l.i l.block
