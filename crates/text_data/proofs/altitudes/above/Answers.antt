use Rattle.std.proofs.Common.{arith}
use Rattle.text_data.specs.LocationText.{without_metres}
use Rattle.text_data.proofs.DecimalOnce.{decimal_once}
use Rattle.text_data.proofs.altitudes.above.Goals as goal

pub returns-in_err-cents-clause-none : goal.returns-in_err-cents-clause-none
returns-in_err-cents-clause-none c = rw c.from_residual.ensures (λ height is. c.in_err-cents.ensures.none is.cents is.spelled (omega (arith, is.high, is.small)))

pub returns-in-Ok-clause-value : goal.returns-in-Ok-clause-value
returns-in-Ok-clause-value c = record { cents = c.in_ok-cents.cents; spelled = c.in_ok-cents.ensures.value; high = omega (arith, c.in-Ok.ensures.0, c.in-Ok.ensures.1); small = omega (arith, c.in-Ok.ensures.0, c.in-Ok.ensures.1) }

pub returns-in-Err-clause-none : goal.returns-in-Err-clause-none
returns-in-Err-clause-none c = λ height is. omega (arith, decimal_once 2 (without_metres c.args.text.now) c.in_ok-cents.cents is.cents c.in_ok-cents.ensures.value is.spelled, is.high, is.small, c.in-Err.ensures)
