use Rattle.std.proofs.Common.{arith}
use Rattle.wire_messages.proofs.lemmas.serialize.reading.LabelSteps.{label_short, name_long}
use Rattle.wire_reading.proofs.serialize.reading.name_reader.label_end.Goals as goal

pub returns-then-bytes-end : goal.returns-then-bytes-end
returns-then-bytes-end c = λ start. label_short start c.args.place c.args.size c.args.count c.requires.count c.requires.label.0 c.requires.label.1 (omega arith)

pub returns-then-size-count-gt-MAX_NAME_LEN : goal.returns-then-size-count-gt-MAX_NAME_LEN
returns-then-size-count-gt-MAX_NAME_LEN c = λ start.
    name_long start c.args.place c.args.size c.args.count c.requires.count c.requires.label.0 c.requires.label.1 (omega arith) (omega arith)
