-- No front that was tried has room. One additional fewer is tried each time.
use Rattle.std.proofs.Common.{◌<◌, ◌≤◌, ℕ}
use Rattle.hickory_server.specs.server.Fitted.{IsNoFront}
use Rattle.hickory_server.specs.server.Written.{said}
use Rattle.hickory_server.proofs.server.datagrams.longest.Given as goal

abbrev pub invariant-fronts : goal.invariant-fronts
invariant-fronts l = (l.count ≤ l.most) × ((more : ℕ) → l.count < more → more ≤ l.most → IsNoFront l.limit (said l.reply) more)

abbrev pub decreases-fronts : goal.decreases-fronts
decreases-fronts l = l.count
