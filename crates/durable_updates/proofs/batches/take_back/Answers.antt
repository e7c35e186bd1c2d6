-- One more is taken back.
use Rattle.std.proofs.Common.{◌∙◌, ap, arith, set, sym}
use Rattle.std.proofs.lemmas.List.Edits.{map_over_more}
use Rattle.durable_updates.specs.Batches.{told_unwritten}
use Rattle.durable_updates.proofs.batches.take_back.Goals as goal

pub loop-told-preserved : goal.loop-told-preserved
loop-told-preserved c =
    ap (set c.loop-told.answers c.loop-told.told-index) (c.take_back_one.ensures ∙ ap (told_unwritten c.args.fault.now) (sym c.told-item.is))
    ∙ map_over_more (told_unwritten c.args.fault.now) c.args.answers.now c.loop-told.answers c.loop-told.told-index c.told-item.result (omega arith) c.loop-told.invariant c.told-item.is
