use Rattle.std.proofs.Common.{arith, []}
use Rattle.wire_names.proofs.lemmas.rr.domain.WireForm.{is_wire, no_labels}
use Rattle.wire_writing.proofs.serialize.writing.question_name.QuestionName.none.Goals as goal

pub invariant_of-result : goal.invariant_of-result
invariant_of-result c = (is_wire [] no_labels, omega arith)
