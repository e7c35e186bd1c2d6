-- The sets before, as they are put, and those to come are all sets.
use Rattle.std.proofs.Common.{◌≡◌, ◌++◌}
use Rattle.hickory_base.specs.zone_store.ZoneSets.{shared_sets, sets_of}
use Rattle.hickory_store.specs.representation.SetChanges.{put_sets}
use Rattle.hickory_store.proofs.updates.changed_sets.puts_of.Given as goal

abbrev pub invariant-loop-key : goal.invariant-loop-key
invariant-loop-key l = put_sets l.puts.items ++ shared_sets l.key-iterator ≡ sets_of l.fn.sets
