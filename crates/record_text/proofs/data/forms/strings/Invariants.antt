use Rattle.std.proofs.Common.{take, length, ◌<◌}
use Rattle.std.specs.List.{AllByRecursion, flat_map}
use Rattle.wire_messages.specs.rr.RecordData.{character_string}
use Rattle.record_text.specs.RecordText.{AreStrings}
use Rattle.record_text.proofs.data.forms.strings.Given as goal

abbrev pub invariant-loop-word : goal.invariant-loop-word
invariant-loop-word l = AreStrings (take l.word-index l.words) (flat_map character_string l.strings) × AllByRecursion (λ text. length text < 256) l.strings
