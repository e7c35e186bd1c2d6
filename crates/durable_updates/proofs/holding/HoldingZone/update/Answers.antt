-- One update more waits, or is written.
use Rattle.std.proofs.Common.{inl, inr, ◌∙◌, ℕ, List, Option, Some, Vec, ap, option_map, subst, sym}
use Rattle.std.specs.declared.alloc.Global.{Global}
use Rattle.journal.specs.Read.{contents}
use Rattle.durable_updates.specs.Holding.{IsKeptBut}
use Rattle.durable_updates.proofs.Below.{below_on, next_with}
use Rattle.durable_updates.proofs.HeldZones.{kept_but, more_held}
use Rattle.durable_updates.proofs.holding.HoldingZone.update.Goals as goal

-- the bytes of what is held
abbrev bytes : Option (Vec (Vec ℕ Global) Global) → Option (List (List ℕ))
bytes held = option_map (λ (entries : Vec (Vec ℕ Global) Global). contents entries.items) held

pub invariant_of-self : goal.invariant_of-self
invariant_of-self g c = (
  kept_but g.V.Verifier g.D.Disk c.args.request.now c.args.now c.update_durably.result.0 c.update_durably.result.1
      (record { zone = c.self.inside.zone; journal = c.self.inside.journal }) (record { zone = c.update_durably.new.zone; journal = c.update_durably.new.journal })
      (record { answers = c.update_durably.ensures.answers; read = c.update_durably.ensures.read; accepted = c.update_durably.ensures.accepted; unread = c.update_durably.ensures.unread; made = c.update_durably.ensures.made; kept = c.update_durably.ensures.kept; journals = c.update_durably.ensures.journals })
      c.update_durably.ensures.clean (bytes c.self.inside.held) (inl (ap bytes c.in-None.is)) c.self.invariant.0,
  next_with g.D.Disk c.self.inside.journal c.update_durably.new.journal c.self.inside.spare (λ (generation : ℕ). below_on g.D.Disk c.self.inside.journal c.update_durably.new.journal generation c.update_durably.ensures.clean c.update_durably.result.0 c.args.request.now
      c.update_durably.ensures.accepted c.update_durably.ensures.read c.update_durably.ensures.journals) c.self.invariant.1,
)

pub invariant_of-self-then-not-is_open : goal.invariant_of-self-then-not-is_open
invariant_of-self-then-not-is_open g c = (
  kept_but g.V.Verifier g.D.Disk c.args.request.now c.args.now c.update_durably-in-Some.result.0 c.update_durably-in-Some.result.1
      (record { zone = c.self.inside.zone; journal = c.self.inside.journal }) (record { zone = c.update_durably-in-Some.new.zone; journal = c.update_durably-in-Some.new.journal })
      (record { answers = c.update_durably-in-Some.ensures.answers; read = c.update_durably-in-Some.ensures.read; accepted = c.update_durably-in-Some.ensures.accepted; unread = c.update_durably-in-Some.ensures.unread; made = c.update_durably-in-Some.ensures.made; kept = c.update_durably-in-Some.ensures.kept; journals = c.update_durably-in-Some.ensures.journals })
      c.update_durably-in-Some.ensures.clean (Some (contents c.in-Some.field-0.items)) (inr (sym c.is_open.ensures ∙ c.if-not-is_open.true))
      (subst (IsKeptBut g.D.Disk c.self.inside.zone.zone c.self.inside.journal) (ap bytes c.in-Some.is) c.self.invariant.0),
  next_with g.D.Disk c.self.inside.journal c.update_durably-in-Some.new.journal c.self.inside.spare (λ (generation : ℕ). below_on g.D.Disk c.self.inside.journal c.update_durably-in-Some.new.journal generation c.update_durably-in-Some.ensures.clean c.update_durably-in-Some.result.0 c.args.request.now
      c.update_durably-in-Some.ensures.accepted c.update_durably-in-Some.ensures.read c.update_durably-in-Some.ensures.journals) c.self.invariant.1,
)

pub invariant_of-self-in-Some-2 : goal.invariant_of-self-in-Some-2
invariant_of-self-in-Some-2 g c = (
  more_held g.V.Verifier g.D.Disk c.args.request.now c.args.now c.update_held.result.0 c.update_held.result.1 c.self.inside.zone c.update_held.new.zone c.self.inside.journal
      (contents c.in-Some.field-0.items) (contents c.update_held.new.entries.items) c.update_held.ensures.answers c.update_held.ensures.entries
      (subst (IsKeptBut g.D.Disk c.self.inside.zone.zone c.self.inside.journal) (ap bytes c.in-Some.is) c.self.invariant.0),
  c.self.invariant.1,
)
