-- One record more is incremented.
use Rattle.std.proofs.Common.{◌∙◌, ap, arith, set, sym}
use Rattle.std.proofs.lemmas.List.Edits.{map_over_more}
use Rattle.hickory_store.specs.updates.UpdateAnswers.{incremented}
use Rattle.hickory_store.proofs.updates.updating.increment_serials.Goals as goal

pub loop-q-preserved : goal.loop-q-preserved
loop-q-preserved c =
    ap (set c.loop-q.records c.loop-q.q-index) (c.in_ok-increment.ensures ∙ ap (incremented c.args.origin.now) (sym c.q-item.is))
    ∙ map_over_more (incremented c.args.origin.now) c.args.records.now c.loop-q.records c.loop-q.q-index c.q-item.result (omega arith) c.loop-q.invariant c.q-item.is
