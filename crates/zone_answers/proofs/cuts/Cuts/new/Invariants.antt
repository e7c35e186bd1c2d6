-- Of the sets so far the topmost cuts are told.
use Rattle.std.proofs.Common.{drop}
use Rattle.hickory_base.specs.zone_store.ZoneSets.{shared_sets}
use Rattle.zone_answers.specs.representation.Indexes.{AreWordsOf}
use Rattle.zone_answers.proofs.lemmas.zones.TopCutsMade.{AreTopSoFar}
use Rattle.zone_answers.proofs.cuts.Cuts.new.Given as goal

abbrev pub invariant-loop-key : goal.invariant-loop-key
invariant-loop-key l = record {
  tops : AreTopSoFar (record { origin = l.origin; sets = shared_sets l.sets }) l.entries.items (drop l.key-index l.sets);
  numbered : AreWordsOf l.origin l.entries.items l.words.items;
}
