-- The keys before the lower place are below the key, and those from the higher one on are not.
use Rattle.std.proofs.Common.{◌≤◌, ◌-◌, length, take, drop}
use Rattle.wire_messages.specs.rr.RrKeys.{key_cmp}
use Rattle.zone_answers.proofs.lemmas.zones.Searches.{AreBelow, AreFrom}
use Rattle.zone_answers.proofs.index.place_of.Given as goal

abbrev pub invariant-loop-low : goal.invariant-loop-low
invariant-loop-low l = record {
  ordered : l.low ≤ l.high;
  within : l.high ≤ length l.entries;
  below : AreBelow key_cmp l.first (take l.low l.entries);
  behind : AreFrom key_cmp l.first (drop l.high l.entries);
}

abbrev pub decreases-loop-low : goal.decreases-loop-low
decreases-loop-low l = l.high - l.low
