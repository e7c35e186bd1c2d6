use Rattle.wire_writing.proofs.lemmas.serialize.writing.LinkedNotes.{IsIn}
use Rattle.wire_writing.proofs.serialize.writing.compression_table.find_linked.Given as goal

abbrev pub invariant-loop-last : goal.invariant-loop-last
invariant-loop-last l = IsIn l.suffix l.notes l.last

abbrev pub decreases-loop-last : goal.decreases-loop-last
decreases-loop-last l = l.last
