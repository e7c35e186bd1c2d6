use Rattle.std.proofs.Common.{◌≡◌, ◌++◌, drop, take}
use Rattle.text_words.specs.Cuts.{before_byte, behind_byte}
use Rattle.text_words.proofs.cuts.cut_at.Given as goal

abbrev pub invariant-loop-place : goal.invariant-loop-place
invariant-loop-place l = record {
  before : before_byte l.byte l.text ≡ take l.place l.text ++ before_byte l.byte (drop l.place l.text);
  behind : behind_byte l.byte l.text ≡ behind_byte l.byte (drop l.place l.text);
}
