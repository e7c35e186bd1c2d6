use Rattle.server_limits.proofs.lemmas.Prefixes.{PartsBehind}
use Rattle.server_limits.proofs.access_control.IpNet.common.Given as goal

abbrev pub invariant-loop-length : goal.invariant-loop-length
invariant-loop-length l = PartsBehind l.self l.other l.length

abbrev pub decreases-loop-length : goal.decreases-loop-length
decreases-loop-length l = l.length
