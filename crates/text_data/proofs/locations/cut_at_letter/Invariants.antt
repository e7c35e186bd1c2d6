use Rattle.std.proofs.Common.{◌≡◌, ◌++◌, drop, take}
use Rattle.text_data.specs.LocationText.{before_letter, behind_letter, letter_of}
use Rattle.text_data.proofs.locations.cut_at_letter.Given as goal

abbrev pub invariant-loop-place : goal.invariant-loop-place
invariant-loop-place l = record {
  before : before_letter l.plus l.minus l.words ≡ take l.place l.words ++ before_letter l.plus l.minus (drop l.place l.words);
  letter : letter_of l.plus l.minus l.words ≡ letter_of l.plus l.minus (drop l.place l.words);
  behind : behind_letter l.plus l.minus l.words ≡ behind_letter l.plus l.minus (drop l.place l.words);
}
