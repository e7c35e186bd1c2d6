use Rattle.std.proofs.Common.{◌≡◌, take}
use Rattle.wire_writing.specs.representation.NameTable.{pairs, AreLinked}
use Rattle.wire_writing.proofs.serialize.writing.compression_table.link.Given as goal

abbrev pub invariant-loop-note : goal.invariant-loop-note
invariant-loop-note l = (pairs l.linked.items ≡ pairs (take l.note-index l.notes)) × AreLinked l.linked.items l.lasts
