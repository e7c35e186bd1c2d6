use Rattle.std.proofs.Common.{◌≡◌, ℕ, ◌+◌, ◌≤◌, ◌-◌, List, length, take, drop}
use Rattle.text_words.specs.Spelling.{Spells, any_byte}
use Rattle.text_words.proofs.SpelledOnce.{Reads}
use Rattle.text_words.proofs.escapes.read_string.Given as goal

abbrev pub invariant-bytes : goal.invariant-bytes
invariant-bytes l = record {
  short : l.len ≤ 255;
  within : l.place ≤ length l.text;
  sized : length l.string ≡ 255;
  spelled : Spells any_byte (take l.place l.text) (take l.len l.string);
  all : (bytes : List ℕ) → Spells any_byte l.text bytes → (behind : List ℕ) × Reads any_byte (drop l.place l.text) behind × (length bytes ≡ l.len + length behind);
}

abbrev pub decreases-bytes : goal.decreases-bytes
decreases-bytes l = length l.text - l.place
