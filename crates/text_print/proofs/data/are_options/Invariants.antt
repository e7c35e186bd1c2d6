use Rattle.std.proofs.Common.{take}
use Rattle.std.specs.List.{AllByRecursion}
use Rattle.wire_messages.specs.rr.RecordData.{IsOption}
use Rattle.text_print.proofs.data.are_options.Given as goal

abbrev pub invariant-loop-option : goal.invariant-loop-option
invariant-loop-option l = AllByRecursion IsOption (take l.option-index l.options)
