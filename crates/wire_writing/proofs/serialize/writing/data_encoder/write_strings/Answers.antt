use Rattle.wire_messages.proofs.lemmas.serialize.layout.Ranges.{texts_short, no_long_text}
use Rattle.wire_writing.proofs.serialize.writing.data_encoder.write_strings.Goals as goal

pub returns-clause-in_range : goal.returns-clause-in_range
returns-clause-in_range c = texts_short c.args.strings.now (no_long_text c.args.strings.now c.requires)
