use Rattle.std.proofs.Common.{take}
use Rattle.text_words.specs.Spelling.{Puts}
use Rattle.record_text.specs.Prefixes.{ArePrefixes}
use Rattle.record_text.proofs.data.prefixes.put_prefixes.Given as goal

abbrev pub invariant-loop-word : goal.invariant-loop-word
invariant-loop-word l = Puts (ArePrefixes (take l.word-index l.words)) l.initial.«data».items l.«data».items
