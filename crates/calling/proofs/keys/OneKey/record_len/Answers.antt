use Rattle.std.proofs.Common.{length, ap, arith}
use Rattle.wire_names.proofs.lemmas.rr.domain.WireForm.{name_len-wire_form}
use Rattle.calling.proofs.keys.OneKey.record_len.Goals as goal

pub overflow_add-result-2 : goal.overflow_add-result-2
overflow_add-result-2 c =
    omega (
      arith,
      name_len-wire_form c.as_name.result.now.labels,
      ap length c.as_wire.ensures.labels,
      c.as_wire.ensures.bounds.short,
      name_len-wire_form c.as_name-2.result.now.labels,
      ap length c.as_wire-2.ensures.labels,
      c.as_wire-2.ensures.bounds.short,
    )

pub returns-clause-short : goal.returns-clause-short
returns-clause-short c =
    omega (
      arith,
      name_len-wire_form c.as_name.result.now.labels,
      ap length c.as_wire.ensures.labels,
      c.as_wire.ensures.bounds.short,
      name_len-wire_form c.as_name-2.result.now.labels,
      ap length c.as_wire-2.ensures.labels,
      c.as_wire-2.ensures.bounds.short,
    )
