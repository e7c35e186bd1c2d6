use Rattle.std.proofs.Common.{◌≤◌, ◌-◌, length}
use Rattle.text_words.specs.Words.{IsRun, ends_quoted}
use Rattle.text_words.proofs.words.quote_place.Given as goal

abbrev pub invariant-bytes : goal.invariant-bytes
invariant-bytes l = record {
  on : l.start ≤ l.place;
  within : l.place ≤ length l.text;
  run : IsRun ends_quoted l.text l.start l.place;
}

abbrev pub decreases-bytes : goal.decreases-bytes
decreases-bytes l = length l.text - l.place
