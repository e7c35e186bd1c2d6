-- The journal keeps the zone as before.
use Rattle.std.proofs.Common.{ap, option_map}
use Rattle.journal.specs.Read.{contents}
use Rattle.durable_updates.proofs.Below.{next_with}
use Rattle.durable_updates.proofs.Done.{below_too, durable_too, kept_by}
use Rattle.durable_updates.proofs.holding.HoldingZone.operations_done.Goals as goal

pub invariant_of-self : goal.invariant_of-self
invariant_of-self g c = (
  kept_by g.D.Disk c.self.inside.journal c.operations_done.new.self
      (durable_too g.D.Disk c.self.inside.journal c.operations_done.new.self (ap (λ j. j.is_open) c.operations_done.ensures.others) (ap (λ j. j.end) c.operations_done.ensures.others)
      c.operations_done.ensures.seen c.operations_done.ensures.crash c.operations_done.ensures.clean)
      c.self.inside.zone.zone (option_map (λ entries. contents entries.items) c.self.inside.held) c.self.invariant.0,
  next_with g.D.Disk c.self.inside.journal c.operations_done.new.self c.spare_done.new.spare
      (below_too g.D.Disk c.self.inside.journal c.operations_done.new.self (ap (λ j. j.is_open) c.operations_done.ensures.others) (ap (λ j. j.end) c.operations_done.ensures.others)
      c.operations_done.ensures.seen c.operations_done.ensures.crash c.operations_done.ensures.clean) (c.spare_done.ensures c.self.inside.journal c.self.invariant.1),
)
