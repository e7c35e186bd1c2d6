use Rattle.std.proofs.Common.{length}
use Rattle.zone_check.proofs.NameHashes.{GainsUpTo}
use Rattle.zone_denials.specs.Nsec3Data.{hashing_by}
use Rattle.zone_check.proofs.hashes.put_names.Given as goal

abbrev pub invariant-above : goal.invariant-above
invariant-above l = GainsUpTo l.origin (hashing_by l.by) l.fn.name l.fn.names l.name l.names

abbrev pub decreases-above : goal.decreases-above
decreases-above l = length l.name.labels
