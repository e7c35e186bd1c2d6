-- What was put says the records of the sets so far.
use Rattle.std.proofs.Common.{◌≡◌, ◌++◌, List}
use Rattle.wire_messages.specs.declared.rr.rdata.RData.{RData}
use Rattle.wire_messages.specs.declared.rr.record.Record.{Record}
use Rattle.hickory_base.specs.zone_store.ZoneSets.{sets_of, shared_sets, zone_records}
use Rattle.journal.specs.Read.{contents}
use Rattle.durable_updates.specs.Snapshots.{Say}
use Rattle.durable_updates.proofs.snapshots.write_sets.Given as goal

abbrev pub invariant-loop-set : goal.invariant-loop-set
invariant-loop-set l =
    (front : List (Record RData)) × (zone_records (sets_of l.fn.sets) ≡ front ++ zone_records (shared_sets l.set-iterator)) × Say (contents l.entries.items) front
