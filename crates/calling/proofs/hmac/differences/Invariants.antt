-- The octets before the place are looked at.
use Rattle.std.proofs.Common.{◌≡◌}
use Rattle.calling.specs.Hmac.{differences}
use Rattle.calling.proofs.hmac.differences.Given as goal

abbrev pub invariant-octets : goal.invariant-octets
invariant-octets l = l.bits ≡ differences l.own l.other l.i
