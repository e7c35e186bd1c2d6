-- The values so far are copied, where a clone of a value is that value.
use Rattle.std.proofs.Common.{◌≡◌, take}
use Rattle.wire_names.proofs.values.items.ItemsClone.clone.Given as goal

abbrev pub invariant-loop-item : goal.invariant-loop-item
invariant-loop-item g l = ((value clone : g.row.T.Denot) → g.T.Clone.is_clone value clone → clone ≡ value) → l.items.items ≡ take l.item-index l.item-items
