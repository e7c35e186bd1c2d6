-- What was copied and what is still of the name are all records of the name.
use Rattle.std.proofs.Common.{◌≡◌, ◌++◌}
use Rattle.std.specs.List.{flat_map}
use Rattle.hickory_base.proofs.lemmas.zone_store.KeyOrder.{of_name, while_of}
use Rattle.hickory_base.specs.zone_store.ZoneAnswers.{records_at}
use Rattle.hickory_base.specs.zone_store.ZoneSets.{sets_of}
use Rattle.hickory_base.proofs.zone_store.find.copies_of_name.Given as goal

abbrev pub invariant-loop-key : goal.invariant-loop-key
invariant-loop-key l = l.all.items ++ flat_map (λ e. e.1.value) (while_of (of_name l.first) l.key-iterator) ≡ records_at l.first.name (sets_of l.sets)
