-- The records of the names before and those of the names to come are all records.
use Rattle.std.proofs.Common.{◌≡◌, ◌++◌}
use Rattle.std.specs.List.{flat_map}
use Rattle.std.specs.Map.{values_of}
use Rattle.hickory_store.proofs.updates.changed_sets.touched_records.Given as goal

abbrev pub invariant-loop-records : goal.invariant-loop-records
invariant-loop-records l = l.all.items ++ flat_map (λ records. records) l.records-iterator ≡ flat_map (λ records. records) (values_of l.fn.touched.entries)
