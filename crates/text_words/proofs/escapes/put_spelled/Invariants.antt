use Rattle.std.proofs.Common.{ℕ, ◌≤◌, ◌-◌, List, length, take, drop}
use Rattle.text_words.specs.Spelling.{Puts}
use Rattle.text_words.specs.Spelling.{Spells, any_byte}
use Rattle.text_words.proofs.SpelledOnce.{Reads}
use Rattle.text_words.proofs.escapes.put_spelled.Given as goal

abbrev pub invariant-bytes : goal.invariant-bytes
invariant-bytes l = record {
  within : l.place ≤ length l.text;
  spelled : Puts (Spells any_byte (take l.place l.text)) l.initial.bytes.items l.bytes.items;
  all : (bytes : List ℕ) → Spells any_byte l.text bytes → (behind : List ℕ) × Reads any_byte (drop l.place l.text) behind;
}

abbrev pub decreases-bytes : goal.decreases-bytes
decreases-bytes l = length l.text - l.place
