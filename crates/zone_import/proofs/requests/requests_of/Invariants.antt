-- Fewer updates are left.
use Rattle.std.proofs.Common.{length}
use Rattle.zone_import.proofs.requests.requests_of.Given as goal

abbrev pub decreases-loop-rest : goal.decreases-loop-rest
decreases-loop-rest l = length l.rest
