-- Nothing waits yet.
use Rattle.std.proofs.Common.{◌∙◌, ℕ, List, Vec, ap, not, subst, sym}
use Rattle.std.specs.declared.alloc.Global.{Global}
use Rattle.journal.specs.Read.{contents}
use Rattle.durable_updates.specs.Holding.{IsAhead}
use Rattle.durable_updates.proofs.HeldZones.{none_held, nothing_held}
use Rattle.durable_updates.proofs.holding.HoldingZone.hold.Goals as goal

pub invariant_of-self : goal.invariant_of-self
invariant_of-self g c = (
  subst (λ (es : List (Vec ℕ Global)). IsAhead g.D.Disk c.self.inside.zone.zone c.self.inside.journal (contents es)) (sym c.new.ensures.items)
      (none_held g.D.Disk c.self.inside.zone.zone c.self.inside.journal
      (nothing_held g.D.Disk (λ (entries : Vec (Vec ℕ Global) Global). contents entries.items) c.self.inside.held c.self.inside.zone.zone c.self.inside.journal
      (c.is_none.ensures ∙ ap not c.if-is_none.true) c.self.invariant.0)),
  c.self.invariant.1,
)
