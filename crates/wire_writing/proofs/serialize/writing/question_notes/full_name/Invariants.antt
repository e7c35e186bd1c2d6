use Rattle.std.proofs.Common.{◌<◌, ◌≤◌, ◌-◌, length}
use Rattle.wire_writing.proofs.lemmas.serialize.writing.QuestionSteps.{StandsSoFar}
use Rattle.wire_writing.proofs.serialize.writing.question_notes.full_name.Given as goal

abbrev pub invariant-loop-place : goal.invariant-loop-place
invariant-loop-place l = record {
  so_far : l.place ≤ length l.question → StandsSoFar l.question l.place l.count;
  small : l.place < 319;
  few : l.count ≤ l.place;
}

abbrev pub decreases-loop-place : goal.decreases-loop-place
decreases-loop-place l = length l.question - l.place
