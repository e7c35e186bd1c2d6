use Rattle.std.proofs.Common.{◌≤◌, ◌+◌, ◌-◌, ℕ, false, List, ◌++◌, length, drop}
use Rattle.text_data.specs.ServiceText.{AreItems, HasNone, list_items}
use Rattle.text_data.proofs.items.items.Given as goal

abbrev pub invariant-items : goal.invariant-items
invariant-items l = record {
  within : l.place ≤ length l.text;
  whole : (rest : List ℕ) → AreItems l.kind (list_items false (drop l.place l.text)) rest → AreItems l.kind (list_items false l.text) (l.octets.items ++ rest);
  never : HasNone (AreItems l.kind (list_items false (drop l.place l.text))) → HasNone (AreItems l.kind (list_items false l.text));
}

abbrev pub decreases-items : goal.decreases-items
decreases-items l = length l.text + 1 - l.place
