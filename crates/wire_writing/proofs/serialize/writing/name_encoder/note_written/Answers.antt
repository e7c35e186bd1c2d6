use Rattle.wire_writing.proofs.lemmas.serialize.writing.NameSteps.{found_noted}
use Rattle.wire_writing.proofs.serialize.writing.name_encoder.note_written.Goals as goal

pub keep-requires : goal.keep-requires
keep-requires c = (c.requires.labels, found_noted c.args.wire.now c.args.place c.args.table.now c.note.new.self c.requires.fresh c.in_ok-note.ensures.ok)
