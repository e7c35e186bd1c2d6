-- Each word so far spells its type.
use Rattle.std.proofs.Common.{map, take}
use Rattle.std.specs.List.{AllZip}
use Rattle.record_text.specs.RecordText.{SpellsType}
use Rattle.update_policy.proofs.rule_text.read_types.Given as goal

abbrev pub invariant-loop-word : goal.invariant-loop-word
invariant-loop-word l = AllZip SpellsType (map (λ word. word.now) (take l.word-index l.words)) l.types
