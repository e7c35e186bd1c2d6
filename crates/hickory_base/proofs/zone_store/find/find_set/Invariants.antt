-- What the walk answers from here on is what the whole zone answers.
use Rattle.std.proofs.Common.{◌≡◌, None}
use Rattle.hickory_base.proofs.lemmas.zone_store.StoredSets.{walked}
use Rattle.hickory_base.specs.zone_store.ZoneAnswers.{set_answer, set_or_denial}
use Rattle.hickory_base.specs.zone_store.ZoneSets.{sets_of}
use Rattle.hickory_base.proofs.zone_store.find.find_set.Given as goal

abbrev pub invariant-loop-key : goal.invariant-loop-key
invariant-loop-key l = walked l.first l.record_type (set_or_denial None l.is_in_use) l.key-iterator ≡ set_answer (sets_of l.sets) l.first.name l.record_type
