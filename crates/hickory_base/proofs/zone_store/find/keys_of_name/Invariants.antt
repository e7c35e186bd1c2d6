-- What was copied and what is still of the name are all keys of the name.
use Rattle.std.proofs.Common.{◌≡◌, ◌++◌}
use Rattle.std.specs.Map.{keys_of}
use Rattle.hickory_base.proofs.lemmas.zone_store.KeyOrder.{of_name, while_of}
use Rattle.hickory_base.specs.zone_store.ZoneSets.{keys_at, sets_of}
use Rattle.hickory_base.proofs.zone_store.find.keys_of_name.Given as goal

abbrev pub invariant-loop-key : goal.invariant-loop-key
invariant-loop-key l = l.keys.items ++ keys_of (while_of (of_name l.first) l.key-iterator) ≡ keys_at l.first.name (sets_of l.sets)
