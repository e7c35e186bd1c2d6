use Rattle.std.proofs.Common.{◌≡◌, ◌+◌, Some, sym, arith}
use Rattle.std.specs.Prelude.{slice_get}
use Rattle.wire_messages.proofs.lemmas.serialize.reading.LabelSteps.{pointer_short, leads_on}
use Rattle.wire_reading.proofs.serialize.reading.name_reader.pointer_target.Goals as goal

pub returns-in_default : goal.returns-in_default
returns-in_default c = λ size. pointer_short c.args.start c.args.place size c.args.high c.requires.high c.requires.pointer.0 (sym c.in_default.ensures.value)

pub returns-then-target-start : goal.returns-then-target-start
returns-then-target-start c = λ size.
    let some : slice_get c.args.bytes.now (c.args.place + 1) ≡ Some c.from.result = cc in
    leads_on c.args.start c.args.place size c.args.high c.from.result c.requires.high c.requires.pointer.0 some (omega arith)
