-- The sets before the next place have marks if they are of the name.
use Rattle.std.proofs.Common.{◌≡◌, ◌<◌, ◌≤◌, ◌-◌, ℕ, false, length, Some}
use Rattle.std.specs.Prelude.{slice_get}
use Rattle.hickory_base.specs.zone_store.ZoneSets.{has_name}
use Rattle.zone_answers.specs.representation.Indexes.{IsClearAt}
use Rattle.zone_answers.specs.representation.KeysBeside.{Entry}
use Rattle.zone_answers.proofs.index.mark_name.Given as goal

abbrev pub invariant-loop-next : goal.invariant-loop-next
invariant-loop-next l = record {
  len : length l.marks.items ≡ length l.fn.marks.items;
  from : l.place ≤ l.next;
  within : l.next ≤ length l.entries;
  kept : (other : ℕ) → slice_get l.marks.items other ≡ Some false → slice_get l.fn.marks.items other ≡ Some false;
  place_too : slice_get l.marks.items l.place ≡ Some false → ⊥;
  own : (other : ℕ) (e : Entry) → other < l.next → IsClearAt l.entries l.marks.items other e → has_name l.first.name e.0 ≡ false;
}

abbrev pub decreases-loop-next : goal.decreases-loop-next
decreases-loop-next l = length l.entries - l.next
