use Rattle.std.proofs.Common.{◌-◌}
use Rattle.wire_writing.proofs.lemmas.serialize.writing.QuestionEnds.{Passed}
use Rattle.wire_writing.proofs.serialize.writing.question_name.place_of_end.Given as goal

abbrev pub invariant-loop-place : goal.invariant-loop-place
invariant-loop-place l = Passed l.wire l.count l.start l.place l.passed

abbrev pub decreases-loop-place : goal.decreases-loop-place
decreases-loop-place l = l.start - l.place
