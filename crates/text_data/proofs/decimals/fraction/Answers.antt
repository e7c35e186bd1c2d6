use Rattle.std.proofs.Common.{arith}
use Rattle.text_data.proofs.DecimalOnce.{as_fraction, empty_fraction, no_fraction}
use Rattle.text_data.proofs.decimals.fraction.Goals as goal

pub returns-then-len-eq0-clause-value : goal.returns-then-len-eq0-clause-value
returns-then-len-eq0-clause-value c = empty_fraction c.args.places c.args.digits.now (omega arith)

pub returns-in_err-number-clause-none : goal.returns-in_err-number-clause-none
returns-in_err-number-clause-none c =
    rw c.from_residual.ensures (no_fraction c.args.places c.args.digits.now (omega arith) (omega arith) c.in_err-number.ensures.none)

pub returns-clause-value : goal.returns-clause-value
returns-clause-value c = as_fraction c.args.places c.args.digits.now c.in_ok-number.number c.from.result c.power_of_ten.result c.in_ok-number.ensures.number.0 (omega arith) c.from.ensures c.power_of_ten.ensures.value
