use Rattle.std.proofs.Common.{take}
use Rattle.std.specs.List.{AllByRecursion}
use Rattle.text_print.specs.PrintedData.{IsWordByte}
use Rattle.text_print.proofs.fields.is_word.Given as goal

abbrev pub invariant-loop-byte : goal.invariant-loop-byte
invariant-loop-byte l = AllByRecursion IsWordByte (take l.byte-index l.bytes)
