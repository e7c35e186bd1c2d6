-- What was recovered is done again.
use Rattle.std.proofs.Common.{IsTrue, List, Vec, ℕ, Ok, refl, subst, sym}
use Rattle.std.specs.declared.alloc.Global.{Global}
use Rattle.hickory_store.specs.updates.UpdatableZone.{UpdatableZone}
use Rattle.journal.specs.JournalState.{JournalState}
use Rattle.journal.specs.Read.{contents}
use Rattle.durable_updates.specs.Recorded.{IsRecovered}
use Rattle.durable_updates.specs.Redone.{Redone}
use Rattle.durable_updates.specs.Runs.{Opens, Starts, unused}
use Rattle.durable_updates.proofs.Histories.{started}
use Rattle.durable_updates.proofs.Recalled.{recalls_all}
use Rattle.durable_updates.proofs.handler.JournalledZone.open.Goals as goal

pub new-requires-in-Ok-redo : goal.new-requires-in-Ok-redo
new-requires-in-Ok-redo g c = λ clean.
    let was : IsTrue (g.D.Disk.is_clean c.recover.new.disk) = subst (λ (j : JournalState g.row.D.Denot). IsTrue (g.D.Disk.is_clean j.disk)) c.new.ensures clean in
    let redone : Redone (contents c.in-Ok.found.entries.items) c.args.zone.zone c.redo.new.zone.zone = subst (λ (es : List (Vec ℕ Global)). Redone (contents es) c.args.zone.zone c.redo.new.zone.zone) c.deref.ensures.value c.in-Ok-redo.ensures.redone in
    let opens : Opens g.V.Verifier g.D.Disk (g.D.Disk.seen c.args.disk) (Ok c.in-Ok.found) c.recover.new.disk = record { disk = c.args.disk; there = refl; restarted = c.requires.restarted; recovers = c.in-Ok.ensures.recovers; clean = was } in
    let starts : Starts g.V.Verifier g.D.Disk c.args.zone.zone (g.D.Disk.seen c.args.disk) (record { zone = c.redo.new.zone; journal = c.new.result }) =
    record { opened = c.recover.new.disk; found = c.in-Ok.found; opens = opens; journal = c.new.ensures; redone = redone } in
    (c.args.zone.zone, contents c.in-Ok.found.entries.items, c.redo.new.zone.zone, unused, recalls_all (contents c.in-Ok.found.entries.items) c.args.zone.zone c.redo.new.zone.zone redone, (started g.V.Verifier g.D.Disk c.args.zone.zone (g.D.Disk.seen c.args.disk) (record { zone = c.redo.new.zone; journal = c.new.result }) starts).1)

pub returns-in-Ok-redo-clause-recovered : goal.returns-in-Ok-redo-clause-recovered
returns-in-Ok-redo-clause-recovered g c =
    let redone : Redone (contents c.in-Ok.found.entries.items) c.args.zone.zone c.redo.new.zone.zone = subst (λ (es : List (Vec ℕ Global)). Redone (contents es) c.args.zone.zone c.redo.new.zone.zone) c.deref.ensures.value c.in-Ok-redo.ensures.redone in
    let recovered : IsRecovered g.D.Disk c.args.disk c.args.zone.zone c.redo.new.zone.zone = record { opened = c.recover.new.disk; found = c.in-Ok.found; recovers = c.in-Ok.ensures.recovers; redone = redone } in
    subst (λ (z : UpdatableZone g.row.V.Denot). IsRecovered g.D.Disk c.args.disk c.args.zone.zone z.zone) (sym c.new-in-Ok-redo.ensures) recovered
