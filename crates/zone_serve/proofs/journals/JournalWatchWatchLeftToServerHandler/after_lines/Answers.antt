-- One journal more is looked after, or there is none at the place: the catalog stays.
use Rattle.std.proofs.Common.{◌∙◌, refl}
use Rattle.zone_serve.proofs.journals.JournalWatchWatchLeftToServerHandler.after_lines.Goals as goal
use Rattle.zone_serve.proofs.journals.JournalWatchWatchLeftToServerHandler.after_lines.Goals.{in-Some, in_default}

pub loop-place-init : goal.loop-place-init
loop-place-init g c = refl

pub loop-place-preserved : goal.loop-place-preserved
loop-place-preserved g c =
    elim c.match-get_mut.branch [
      | in-Some w ↦ rw w.catalog-is (w.look_after.ensures ∙ c.loop-place.invariant)
      | in_default w ↦ rw w.catalog-is c.loop-place.invariant
    ]
