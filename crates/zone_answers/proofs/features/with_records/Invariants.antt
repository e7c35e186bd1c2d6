-- So far each record is covered, and nothing is lost.
use Rattle.std.proofs.Common.{◌<◌, ℕ}
use Rattle.std.specs.List.{slice_index_or}
use Rattle.wire_messages.specs.declared.rr.rdata.RData.{RData}
use Rattle.wire_messages.specs.declared.rr.record.Record.{Record}
use Rattle.zone_answers.specs.representation.Features.{Covers, Includes}
use Rattle.zone_answers.proofs.features.with_records.Given as goal

abbrev pub invariant-loop-i : goal.invariant-loop-i
invariant-loop-i l = Includes l.fn.has l.all × ((k : ℕ) (d : Record RData) → k < l.i → Covers l.all (slice_index_or l.fn.added k d))
