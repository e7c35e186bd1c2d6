use Rattle.wire_writing.proofs.lemmas.serialize.writing.QuestionSteps.{name_wire, name_count, name_noted}
use Rattle.wire_writing.proofs.serialize.writing.question_notes.note_question.Goals as goal

pub begin-requires-clause-wire : goal.begin-requires-clause-wire
begin-requires-clause-wire c = name_wire c.args.question.now c.in-Some.name.wire.now c.in-Some.name.count c.in-Some.ensures

pub begin-requires-clause-count : goal.begin-requires-clause-count
begin-requires-clause-count c = name_count c.args.question.now c.in-Some.name.wire.now c.in-Some.name.count c.in-Some.ensures

pub returns-in-Some : goal.returns-in-Some
returns-in-Some c = name_noted c.args.question.now c.in-Some.name.wire.now c.in-Some.name.count c.begin.new.self c.in-Some.ensures c.begin.ensures
