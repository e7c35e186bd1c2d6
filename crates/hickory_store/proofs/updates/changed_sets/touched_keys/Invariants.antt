-- The keys of the names before and those of the names to come are the keys of all names.
use Rattle.std.proofs.Common.{◌≡◌, ◌++◌}
use Rattle.std.specs.List.{flat_map}
use Rattle.std.specs.Map.{keys_of}
use Rattle.hickory_base.specs.zone_store.ZoneSets.{keys_at}
use Rattle.hickory_store.proofs.updates.changed_sets.touched_keys.Given as goal

abbrev pub invariant-loop-name : goal.invariant-loop-name
invariant-loop-name l = l.all.items ++ flat_map (λ name. keys_at name l.zone.sets) l.name-iterator ≡ flat_map (λ name. keys_at name l.zone.sets) (keys_of l.touched.entries)
