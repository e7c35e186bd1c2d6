use Rattle.text_data.proofs.ItemSteps.{Left}
use Rattle.text_data.proofs.items.item_end.Given as goal

abbrev pub invariant-loop-end : goal.invariant-loop-end
invariant-loop-end l = Left l.text l.start l.end l.is_escaped
