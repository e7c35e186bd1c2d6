-- What was recovered of the file that counts is done again, and followed.
use Rattle.std.proofs.Common.{List, Vec, ℕ, subst, sym}
use Rattle.std.specs.declared.alloc.Global.{Global}
use Rattle.hickory_base.specs.zone_store.ZoneAnswers.{MemoryZone}
use Rattle.hickory_store.specs.updates.UpdatableZone.{UpdatableZone}
use Rattle.journal.specs.Read.{contents}
use Rattle.durable_updates.specs.Snapshots.{Recalls}
use Rattle.durable_updates.specs.Versions.{AreFollowed, AreLed}
use Rattle.durable_updates.proofs.Followed.{followed}
use Rattle.durable_updates.proofs.handler.JournalledZone.open_followed.Goals as goal

pub returns-in-Ok-recall_followed-clause-followed : goal.returns-in-Ok-recall_followed-clause-followed
returns-in-Ok-recall_followed-clause-followed g c =
    let base : MemoryZone = c.args.zone.zone in
    let new : MemoryZone = c.recall_followed.new.zone.zone in
    subst (λ (z : UpdatableZone g.row.V.Denot). AreFollowed g.D.Disk c.args.first c.args.second base c.in-Ok-recall_followed.history z.zone) (sym c.of_two.ensures)
    (followed g.D.Disk c.args.first c.args.second c.in-Ok-recover_two.found c.recover_two.new.first c.recover_two.new.second base new c.in-Ok-recall_followed.history c.in-Ok-recover_two.ensures.found
    (subst (λ (es : List (Vec ℕ Global)). Recalls (contents es) base new) c.entries.ensures c.in-Ok-recall_followed.ensures.recalled)
    (subst (λ (es : List (Vec ℕ Global)). AreLed (λ (done : List (List ℕ)) (version : MemoryZone). Recalls done base version) (contents es) c.in-Ok-recall_followed.history new) c.entries.ensures
    c.in-Ok-recall_followed.ensures.led))
