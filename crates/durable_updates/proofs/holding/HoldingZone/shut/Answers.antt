-- A shut journal keeps what it kept.
use Rattle.std.proofs.Common.{inr, ℕ, ap, option_map, subst, sym}
use Rattle.journal.specs.Read.{contents}
use Rattle.durable_updates.specs.Recorded.{IsDurable}
use Rattle.durable_updates.proofs.Below.{below_left, next_with}
use Rattle.durable_updates.proofs.Compactions.{shut_durable}
use Rattle.durable_updates.proofs.Done.{kept_by}
use Rattle.durable_updates.proofs.holding.HoldingZone.shut.Goals as goal

pub invariant_of-self : goal.invariant_of-self
invariant_of-self g c = (
  kept_by g.D.Disk c.self.inside.journal c.shut.new.self
      (λ zone durable. subst (IsDurable g.D.Disk zone) (sym c.shut.ensures) (shut_durable g.D.Disk zone c.self.inside.journal durable))
      c.self.inside.zone.zone (option_map (λ entries. contents entries.items) c.self.inside.held) c.self.invariant.0,
  next_with g.D.Disk c.self.inside.journal c.shut.new.self c.self.inside.spare (λ (generation : ℕ). below_left g.D.Disk c.self.inside.journal c.shut.new.self generation (ap (λ j. g.D.Disk.is_clean j.disk) c.shut.ensures)
      (inr (ap (λ j. j.is_open) c.shut.ensures))) c.self.invariant.1,
)
