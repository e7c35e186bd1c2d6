use Rattle.std.proofs.Common.{◌≡◌, take, None}
use Rattle.wire_writing.specs.representation.Noted.{first_place}
use Rattle.wire_writing.specs.representation.NameTable.{pairs}
use Rattle.wire_writing.proofs.serialize.writing.compression_table.find_in.Given as goal

abbrev pub invariant-loop-note : goal.invariant-loop-note
invariant-loop-note l = first_place l.suffix (pairs (take l.note-index l.notes)) ≡ None
