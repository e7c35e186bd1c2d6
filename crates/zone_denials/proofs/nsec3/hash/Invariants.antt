-- Hashed as often again as is left, the digest is the name's hash.
use Rattle.std.proofs.Common.{◌≡◌, ◌-◌}
use Rattle.zone_denials.specs.Nsec3.{hash_of, hashed_again}
use Rattle.zone_denials.proofs.nsec3.hash.Given as goal

abbrev pub invariant-loop-i : goal.invariant-loop-i
invariant-loop-i l = hashed_again l.salt (l.iterations - l.i) l.digest ≡ hash_of (record { salt = l.salt; iterations = l.iterations }) l.name
