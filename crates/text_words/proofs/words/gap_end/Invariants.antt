use Rattle.std.proofs.Common.{◌≤◌, ◌-◌, length}
use Rattle.text_words.specs.Words.{IsGap}
use Rattle.text_words.proofs.words.gap_end.Given as goal

abbrev pub invariant-pieces : goal.invariant-pieces
invariant-pieces l = record {
  on : l.start ≤ l.end.place;
  within : l.end.place ≤ length l.text;
  counted : l.end.depth ≤ l.end.place;
  gap : IsGap l.kind l.text l.start l.depth l.end.place l.end.depth;
}

abbrev pub decreases-pieces : goal.decreases-pieces
decreases-pieces l = length l.text - l.end.place
