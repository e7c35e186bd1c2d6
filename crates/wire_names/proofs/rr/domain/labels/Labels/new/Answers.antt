use Rattle.std.proofs.Common.{[], arith}
use Rattle.wire_names.proofs.lemmas.rr.domain.WireForm.{is_wire, cut-wire, no_labels}
use Rattle.wire_names.proofs.rr.domain.labels.Labels.new.Goals as goal

pub invariant_of-result : goal.invariant_of-result
invariant_of-result c = (omega arith, is_wire [] no_labels)

pub returns : goal.returns
returns c = cut-wire []
