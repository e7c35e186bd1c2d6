use Rattle.std.proofs.Common.{◌≡◌, ℕ, ◌<◌, List, length, ap, arith}
use Rattle.wire_names.specs.rr.domain.DomainName.{AreLabels, wire_form}
use Rattle.wire_names.proofs.lemmas.rr.domain.WireForm.{are_labels_of, wire_short, name_len-wire_form}
use Rattle.wire_messages.proofs.serialize.writing.full_form.full_name_len.Goals as goal

are : (wire : List ℕ) (labels : List (List ℕ)) → AreLabels labels → wire ≡ wire_form labels → length wire < 255
are wire labels a e = omega (arith, wire_short labels a, ap length e)

pub overflow_cast-result : goal.overflow_cast-result
overflow_cast-result c =
    let a = are_labels_of c.as_wire.result.now c.args.name.now.labels c.as_wire.ensures.labels c.as_wire.ensures.is_wire in
    omega (arith, are c.as_wire.result.now c.args.name.now.labels a c.as_wire.ensures.labels)

pub overflow_add-result : goal.overflow_add-result
overflow_add-result c =
    let a = are_labels_of c.as_wire.result.now c.args.name.now.labels c.as_wire.ensures.labels c.as_wire.ensures.is_wire in
    omega (arith, are c.as_wire.result.now c.args.name.now.labels a c.as_wire.ensures.labels)

pub returns-clause-len : goal.returns-clause-len
returns-clause-len c = omega (arith, name_len-wire_form c.args.name.now.labels, ap length c.as_wire.ensures.labels)

pub returns-clause-small : goal.returns-clause-small
returns-clause-small c =
    let a = are_labels_of c.as_wire.result.now c.args.name.now.labels c.as_wire.ensures.labels c.as_wire.ensures.is_wire in
    omega (arith, are c.as_wire.result.now c.args.name.now.labels a c.as_wire.ensures.labels)

pub returns-clause-labels : goal.returns-clause-labels
returns-clause-labels c = are_labels_of c.as_wire.result.now c.args.name.now.labels c.as_wire.ensures.labels c.as_wire.ensures.is_wire
