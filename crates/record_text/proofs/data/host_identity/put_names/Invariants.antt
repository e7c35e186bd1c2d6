use Rattle.std.proofs.Common.{take}
use Rattle.std.specs.Option.{option_copied}
use Rattle.text_words.specs.Spelling.{Puts}
use Rattle.record_text.specs.RecordText.{AreNames}
use Rattle.record_text.proofs.data.host_identity.put_names.Given as goal

abbrev pub invariant-loop-word : goal.invariant-loop-word
invariant-loop-word l = Puts (AreNames (option_copied l.origin) (take l.word-index l.words)) l.initial.«data».items l.«data».items
