-- What was put and what is still of the name are all records of the name.
use Rattle.std.proofs.Common.{◌≡◌, ◌++◌}
use Rattle.hickory_base.specs.zone_store.ZoneAnswers.{records_at}
use Rattle.hickory_base.specs.zone_store.ZoneSets.{sets_of}
use Rattle.zone_answers.proofs.lemmas.zones.Every.{all_in_front}
use Rattle.zone_answers.proofs.chains.append_name.Given as goal

abbrev pub invariant-loop-key : goal.invariant-loop-key
invariant-loop-key l = l.all.items ++ all_in_front l.first l.key-iterator ≡ l.fn.all.items ++ records_at l.first.name (sets_of l.sets)
