-- What the entry changed is recorded, and else what led to the zone stays.
use Rattle.std.proofs.Common.{inl, ap, List, subst, sym}
use Rattle.hickory_store.specs.updates.UpdatableZone.{UpdatableZone}
use Rattle.zone_differences.specs.Histories.{IsKeptUp}
use Rattle.zone_differences.specs.declared.difference.Difference.{Difference}
use Rattle.durable_updates.proofs.Followed.{recorded}
use Rattle.durable_updates.proofs.following.redo_one_followed.Goals as goal
use Rattle.durable_updates.proofs.following.redo_one_followed.Goals.{else-branch+in-Err-1, else-branch+in-Ok+in-None-1, else-branch+in-Ok+in-Some-1, then-branch}

pub returns-clause-history : goal.returns-clause-history
returns-clause-history g c =
    elim c.if-branch.branch [
      | then-branch w ↦
          subst (λ (h : List Difference). IsKeptUp c.args.zone.now.zone c.redo_updates.new.zone.zone c.args.history.now h) (sym w.history-is)
          (recorded c.of-before.result c.in_memory.result.now w.in_memory-then-branch.result.now c.updates-updates.result.now c.args.history.now w.follow.new.self c.args.zone.now.zone c.redo_updates.new.zone.zone
          c.in_memory.ensures w.in_memory-then-branch.ensures c.of-before.ensures w.follow.ensures (c.in_ok-redo_updates.ensures.changed w.if-branch.true))
      | else-branch+in-Ok+in-Some-1 w ↦ inl (ap (λ (u : UpdatableZone g.row.V.Denot). u.zone) (c.in_ok-redo_updates.ensures.untouched w.if-branch.false), w.history-is)
      | else-branch+in-Ok+in-None-1 w ↦ inl (ap (λ (u : UpdatableZone g.row.V.Denot). u.zone) (c.in_ok-redo_updates.ensures.untouched w.if-branch.false), w.history-is)
      | else-branch+in-Err-1 w ↦ inl (ap (λ (u : UpdatableZone g.row.V.Denot). u.zone) (c.in_ok-redo_updates.ensures.untouched w.if-branch.false), w.history-is)
    ]
