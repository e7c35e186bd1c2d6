-- What was recovered of the file that counts is done again.
use Rattle.std.proofs.Common.{List, Vec, ℕ, subst, sym}
use Rattle.std.specs.declared.alloc.Global.{Global}
use Rattle.hickory_store.specs.updates.UpdatableZone.{UpdatableZone}
use Rattle.journal.specs.Read.{contents}
use Rattle.durable_updates.specs.Recorded.{AreRecovered}
use Rattle.durable_updates.specs.Snapshots.{Recalls}
use Rattle.durable_updates.proofs.Compactions.{recovered}
use Rattle.durable_updates.proofs.handler.JournalledZone.open_two.Goals as goal

pub returns-in-Ok-recall-clause-recovered : goal.returns-in-Ok-recall-clause-recovered
returns-in-Ok-recall-clause-recovered g c =
    subst (λ (z : UpdatableZone g.row.V.Denot). AreRecovered g.D.Disk c.args.first c.args.second c.args.zone.zone z.zone) (sym c.of_two.ensures)
    (recovered g.D.Disk c.args.first c.args.second c.in-Ok.found c.recover_two.new.first c.recover_two.new.second c.args.zone.zone c.recall.new.zone.zone c.in-Ok.ensures.found
    (subst (λ (es : List (Vec ℕ Global)). Recalls (contents es) c.args.zone.zone c.recall.new.zone.zone) c.entries.ensures c.in-Ok-recall.ensures.recalled))
