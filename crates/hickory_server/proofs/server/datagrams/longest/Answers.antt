use Rattle.std.proofs.Common.{◌≡◌, ◌+◌, ◌<◌, ◌-◌, ◌≤◌, ◌⊎◌, inl, inr, ℕ, arith, subst}
use Rattle.std.proofs.lemmas.Bool.{cases_lt}
use Rattle.wire_messages.specs.serialize.writing.Reply.{Reply}
use Rattle.hickory_server.specs.server.Fitted.{IsNoFront}
use Rattle.hickory_server.specs.server.Written.{said}
use Rattle.hickory_server.proofs.server.datagrams.longest.Goals as goal

module _ (limit : ℕ) (reply : Reply) (most count : ℕ) (no_longer : (more : ℕ) → count < more → more ≤ most → IsNoFront limit reply more) where
  -- none is longer than one that has one additional fewer, if this one has no room
  fewer : (less : ℕ) → less + 1 ≡ count → IsNoFront limit reply count → (more : ℕ) → less < more → more ≤ most → IsNoFront limit reply more
  fewer less one_more none more above within = by (cases_lt count more) where
    by : (count < more) ⊎ (more ≤ count) → IsNoFront limit reply more
    by (inl longer) = no_longer more longer within
    by (inr other) = let same : count ≡ more = omega (arith, one_more, above, other) in subst (λ (n : ℕ). IsNoFront limit reply n) same none

pub fronts-preserved : goal.fronts-preserved
fronts-preserved c =
    let one_more : (c.fronts.count - 1) + 1 ≡ c.fronts.count = omega (arith, c.if-count-eq0.false) in
    let none : IsNoFront c.args.limit (said c.args.reply.now) c.fronts.count = rw c.in_default.is at c.in_ok-bytes.ensures in
    (omega (arith, c.fronts.invariant.0), fewer c.args.limit (said c.args.reply.now) c.args.most c.fronts.count c.fronts.invariant.1 (c.fronts.count - 1) one_more none)
