use Rattle.std.proofs.Common.{◌≡◌, take, length}
use Rattle.wire_writing.specs.representation.NameTable.{AreLinked}
use Rattle.wire_writing.proofs.serialize.writing.compression_table.unlink.Given as goal

abbrev pub invariant-loop-notes : goal.invariant-loop-notes
invariant-loop-notes l = AreLinked l.notes.items l.lasts × (take l.mark l.notes.items ≡ take l.mark l.fn.notes.items)

abbrev pub decreases-loop-notes : goal.decreases-loop-notes
decreases-loop-notes l = length l.notes.items
