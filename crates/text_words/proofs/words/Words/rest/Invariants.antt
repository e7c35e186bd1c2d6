use Rattle.std.proofs.Common.{◌≡◌, ◌≤◌, ◌-◌, ℕ, List, length}
use Rattle.text_words.specs.declared.words.Word.{Word}
use Rattle.text_words.specs.Words.{AreWords, AreWordsTo}
use Rattle.text_words.proofs.words.Words.rest.Given as goal

abbrev pub invariant-fields : goal.invariant-fields
invariant-fields l = record {
  text : l.self.text ≡ l.initial.self.text;
  kind : l.self.kind ≡ l.initial.self.kind;
  on : l.initial.self.place ≤ l.self.place;
  all : (words : List Word) (end : ℕ) → AreWordsTo l.initial.self.kind l.initial.self.text l.initial.self.place l.initial.self.depth words end → (behind : List Word) × AreWordsTo l.initial.self.kind l.initial.self.text l.self.place l.self.depth behind end;
  words : AreWords l.initial.self l.fields.items l.self.place l.self.depth;
}

abbrev pub decreases-fields : goal.decreases-fields
decreases-fields l = length l.self.text - l.self.place
