use Rattle.std.proofs.Common.{take}
use Rattle.text_words.specs.Spelling.{Puts}
use Rattle.record_text.specs.RecordText.{AreStrings}
use Rattle.record_text.proofs.data.rest.put_strings.Given as goal

abbrev pub invariant-loop-word : goal.invariant-loop-word
invariant-loop-word l = Puts (AreStrings (take l.word-index l.words)) l.initial.«data».items l.«data».items
