-- A batch more.
use Rattle.std.proofs.Common.{IfOk, IsTrue, Vec, ℕ, subst}
use Rattle.std.specs.declared.alloc.Global.{Global}
use Rattle.hickory_store.specs.updates.UpdatableZone.{UpdatableZone}
use Rattle.durable_updates.specs.Batches.{AnswersBatch}
use Rattle.durable_updates.specs.DurableUpdates.{Told}
use Rattle.durable_updates.proofs.Below.{below_served, next_with}
use Rattle.durable_updates.proofs.Committed.{in_step, of_the_zone}
use Rattle.durable_updates.proofs.handler.JournalledZone.update_all.Goals as goal

pub invariant_of-self : goal.invariant_of-self
invariant_of-self g c = (
  λ clean.
      let was = c.self.invariant.0 (subst IsTrue c.update_all_durably.ensures.clean clean) in
      let next = in_step g.V.Verifier g.D.Disk (λ (told : Vec Told Global). told.items) c.args.requests.now
      (record { zone = c.self.inside.zone; journal = c.self.inside.journal }) (record { zone = c.update_all_durably.new.zone; journal = c.update_all_durably.new.journal })
      was.2 was.1 was.3 c.update_all_durably.result c.update_all_durably.ensures.served c.update_all_durably.ensures.memory was.5 in
      (was.0, was.1, was.2, next.0, was.4, next.1),
  next_with g.D.Disk c.self.inside.journal c.update_all_durably.new.journal c.self.inside.spare (λ (generation : ℕ). below_served g.V.Verifier g.D.Disk (λ (told : Vec Told Global). told.items) c.args.requests.now
      (record { zone = c.self.inside.zone; journal = c.self.inside.journal }) (record { zone = c.update_all_durably.new.zone; journal = c.update_all_durably.new.journal }) generation
      c.update_all_durably.ensures.clean c.update_all_durably.result c.update_all_durably.ensures.served c.update_all_durably.ensures.memory) c.self.invariant.1,
)

pub returns-clause-answers : goal.returns-clause-answers
returns-clause-answers g c =
    subst (λ (z : UpdatableZone g.row.V.Denot). IfOk c.update_all_durably.result (λ (told : Vec Told Global). AnswersBatch (λ entries. Unit {0}) g.V.Verifier c.args.requests.now told.items z c.update_all_durably.new.zone)) c.self.view_is
    (of_the_zone g.V.Verifier g.D.Disk (λ (told : Vec Told Global). told.items) c.args.requests.now
    (record { zone = c.self.inside.zone; journal = c.self.inside.journal }) (record { zone = c.update_all_durably.new.zone; journal = c.update_all_durably.new.journal })
    c.update_all_durably.result c.update_all_durably.ensures.served)
