use Rattle.std.proofs.Common.{◌≤◌, ◌-◌, length, take}
use Rattle.text_words.specs.Spelling.{SpellsLabels}
use Rattle.text_words.proofs.NoLabels.{AllLeft}
use Rattle.text_words.proofs.names.read_labels.Given as goal

abbrev pub invariant-labels : goal.invariant-labels
invariant-labels l = record {
  within : l.place ≤ length l.text;
  spelled : SpellsLabels (take l.place l.text) l.labels;
  left : AllLeft l.text l.place l.labels;
}

abbrev pub decreases-labels : goal.decreases-labels
decreases-labels l = length l.text - l.place
