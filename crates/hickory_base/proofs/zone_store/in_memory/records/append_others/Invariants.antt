-- What was copied and the others of the sets to come are the others of all sets.
use Rattle.std.proofs.Common.{◌≡◌, ◌++◌, cond, drop}
use Rattle.std.specs.List.{flat_map}
use Rattle.hickory_base.specs.zone_store.ZoneSets.{is_key, sets_of, shared_sets}
use Rattle.hickory_base.proofs.zone_store.in_memory.records.append_others.Given as goal

abbrev pub invariant-loop-key : goal.invariant-loop-key
invariant-loop-key l =
    l.all.items ++ flat_map (λ e. cond (is_key l.apex.name l.apex.record_type e.0) (drop 1 e.1) e.1) (shared_sets l.key-iterator)
    ≡ l.fn.all.items ++ flat_map (λ e. cond (is_key l.apex.name l.apex.record_type e.0) (drop 1 e.1) e.1) (sets_of l.sets)
