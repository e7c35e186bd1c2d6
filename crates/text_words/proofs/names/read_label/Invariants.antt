use Rattle.std.proofs.Common.{◌≡◌, ◌≤◌, ◌-◌, length, take}
use Rattle.text_words.specs.Spelling.{Spells, bare_in_label}
use Rattle.text_words.proofs.names.read_label.Given as goal

abbrev pub invariant-bytes : goal.invariant-bytes
invariant-bytes l = record {
  short : l.len ≤ 63;
  within : l.place ≤ length l.text;
  sized : length l.label ≡ 63;
  spelled : Spells bare_in_label (take l.place l.text) (take l.len l.label);
}

abbrev pub decreases-bytes : goal.decreases-bytes
decreases-bytes l = length l.text - l.place
