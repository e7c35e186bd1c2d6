-- What was held is written, or waits still.
use Rattle.std.proofs.Common.{◌≡◌, ◌∙◌, ℕ, List, Option, Some, Vec, ap, option_map, subst, sym}
use Rattle.std.specs.declared.alloc.Global.{Global}
use Rattle.journal.specs.Read.{contents}
use Rattle.durable_updates.specs.Holding.{IsAhead, IsKeptBut}
use Rattle.durable_updates.specs.Journalling.{JournalsAll}
use Rattle.durable_updates.proofs.Below.{below_all_on, next_with}
use Rattle.durable_updates.proofs.HeldZones.{waits, written}
use Rattle.durable_updates.proofs.holding.HoldingZone.settle.Goals as goal

-- the bytes of what is held
abbrev bytes : Option (Vec (Vec ℕ Global) Global) → Option (List (List ℕ))
bytes held = option_map (λ (entries : Vec (Vec ℕ Global) Global). contents entries.items) held

pub invariant_of-self : goal.invariant_of-self
invariant_of-self g c =
    let is : bytes c.self.inside.held ≡ Some (contents c.in-Some.entries.items) = ap bytes c.in-Some.is in
    let ahead : IsAhead g.D.Disk c.self.inside.zone.zone c.self.inside.journal (contents c.in-Some.entries.items) = subst (IsKeptBut g.D.Disk c.self.inside.zone.zone c.self.inside.journal) is c.self.invariant.0 in (
      subst (IsKeptBut g.D.Disk c.self.inside.zone.zone c.write_held.new.journal) (sym is)
          (waits g.V.Verifier g.D.Disk c.self.inside.zone c.self.inside.journal c.write_held.new.journal (contents c.in-Some.entries.items) ahead c.write_held.ensures.clean
          c.write_held.result (sym c.is_err.ensures.value ∙ c.if-is_err.true)
          (subst (λ (es : List (Vec ℕ Global)). JournalsAll g.D.Disk.seen g.D.Disk.may_leave c.write_held.result (contents es) c.self.inside.journal c.write_held.new.journal) c.deref.ensures.value c.write_held.ensures.journals)),
      next_with g.D.Disk c.self.inside.journal c.write_held.new.journal c.self.inside.spare (λ (generation : ℕ). below_all_on g.D.Disk c.self.inside.journal c.write_held.new.journal generation c.write_held.ensures.clean c.write_held.result ahead.requests ahead.read
          (subst (λ (l : List (List ℕ)). JournalsAll g.D.Disk.seen g.D.Disk.may_leave c.write_held.result l c.self.inside.journal c.write_held.new.journal) (ap (λ (es : List (Vec ℕ Global)). contents es) c.deref.ensures.value ∙ ahead.are) c.write_held.ensures.journals)) c.self.invariant.1,
    )

pub invariant_of-self-2 : goal.invariant_of-self-2
invariant_of-self-2 g c =
    let is : bytes c.self.inside.held ≡ Some (contents c.in-Some.entries.items) = ap bytes c.in-Some.is in
    let ahead : IsAhead g.D.Disk c.self.inside.zone.zone c.self.inside.journal (contents c.in-Some.entries.items) = subst (IsKeptBut g.D.Disk c.self.inside.zone.zone c.self.inside.journal) is c.self.invariant.0 in (
      written g.V.Verifier g.D.Disk c.self.inside.zone c.self.inside.journal c.write_held.new.journal (contents c.in-Some.entries.items) ahead c.write_held.ensures.clean
          c.write_held.result (sym c.is_err.ensures.value ∙ c.if-is_err.false)
          (subst (λ (es : List (Vec ℕ Global)). JournalsAll g.D.Disk.seen g.D.Disk.may_leave c.write_held.result (contents es) c.self.inside.journal c.write_held.new.journal) c.deref.ensures.value c.write_held.ensures.journals),
      next_with g.D.Disk c.self.inside.journal c.write_held.new.journal c.self.inside.spare (λ (generation : ℕ). below_all_on g.D.Disk c.self.inside.journal c.write_held.new.journal generation c.write_held.ensures.clean c.write_held.result ahead.requests ahead.read
          (subst (λ (l : List (List ℕ)). JournalsAll g.D.Disk.seen g.D.Disk.may_leave c.write_held.result l c.self.inside.journal c.write_held.new.journal) (ap (λ (es : List (Vec ℕ Global)). contents es) c.deref.ensures.value ∙ ahead.are) c.write_held.ensures.journals)) c.self.invariant.1,
    )
