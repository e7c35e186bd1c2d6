use Rattle.std.proofs.Common.{◌≡◌, ◌≤◌, length, take}
use Rattle.std.specs.Option.{option_copied}
use Rattle.text_words.specs.Spelling.{Puts}
use Rattle.record_text.specs.RecordText.{AreFields}
use Rattle.record_text.proofs.data.fields.put_fields.Given as goal

abbrev pub invariant-loop-field : goal.invariant-loop-field
invariant-loop-field l = record {
  at : l.place ≡ l.field-index;
  within : l.place ≤ length l.words;
  put : Puts (AreFields (option_copied l.origin) (take l.place l.fields) (take l.place l.words)) l.initial.«data».items l.«data».items;
}
