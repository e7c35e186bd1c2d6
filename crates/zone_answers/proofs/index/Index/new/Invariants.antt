-- What was put and what is still to come are all sets.
use Rattle.std.proofs.Common.{◌≡◌, ◌++◌, length}
use Rattle.std.specs.List.{AllByRecursion}
use Rattle.std.specs.Map.{keys_of}
use Rattle.hickory_base.specs.zone_store.ZoneSets.{sets_of, shared_sets}
use Rattle.zone_answers.specs.representation.Indexes.{AreWordsOf}
use Rattle.zone_answers.specs.Zones.{IsOwner}
use Rattle.zone_answers.proofs.index.Index.new.Given as goal

abbrev pub invariant-loop-key : goal.invariant-loop-key
invariant-loop-key l = record {
  sets : shared_sets l.entries.items ++ shared_sets l.key-iterator ≡ sets_of l.zone.sets.now;
  numbered : AreWordsOf l.zone.origin.now l.entries.items l.words.items;
  marks : length l.marks.items ≡ length l.entries.items;
  owners : AllByRecursion (IsOwner l.zone.origin.now) (keys_of (shared_sets l.key-iterator));
}
