use Rattle.std.proofs.Common.{◌+◌, ◌≤◌, length, take}
use Rattle.wire_writing.specs.representation.Noted.{AreNotes}
use Rattle.wire_writing.specs.representation.Endings.{NotedRun}
use Rattle.wire_writing.specs.serialize.writing.Writing.{ListWritten}
use Rattle.wire_writing.proofs.lemmas.serialize.writing.RecordLists.{nows}
use Rattle.wire_writing.proofs.serialize.writing.list_encoder.write_records.Given as goal

abbrev pub invariant-loop-record : goal.invariant-loop-record
invariant-loop-record g l = record {
  can : (goal.iterator-loop-record g).can_next l.record-iterator;
  finite : (goal.iterator-loop-record g).is_finite l.record-iterator;
  header : 12 ≤ length l.bytes.items;
  longer : length l.fn.bytes.items + l.count ≤ length l.bytes.items;
  within : length l.bytes.items ≤ l.limit;
  written : ListWritten l.limit l.fn.bytes.items (nows l.yielded) l.bytes.items l.count l.ending;
  run : NotedRun l.limit l.fn.bytes.items l.fn.table (take l.count (nows l.yielded)) l.bytes.items l.table;
  noted : AreNotes l.bytes.items (length l.bytes.items) l.table;
}
