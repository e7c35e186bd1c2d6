use Rattle.std.proofs.Common.{◌≤◌, ◌-◌, length}
use Rattle.text_words.specs.Words.{IsRun, ends_word}
use Rattle.text_words.proofs.words.plain_end.Given as goal

abbrev pub invariant-bytes : goal.invariant-bytes
invariant-bytes l = record {
  on : l.start ≤ l.place;
  within : l.place ≤ length l.text;
  run : IsRun (ends_word l.kind) l.text l.start l.place;
}

abbrev pub decreases-bytes : goal.decreases-bytes
decreases-bytes l = length l.text - l.place
