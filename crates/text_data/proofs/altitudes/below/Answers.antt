use Rattle.std.proofs.Common.{arith}
use Rattle.text_data.specs.LocationText.{without_metres}
use Rattle.text_data.proofs.DecimalOnce.{decimal_once}
use Rattle.text_data.proofs.altitudes.below.Goals as goal

pub returns-in_err-cents-clause-none : goal.returns-in_err-cents-clause-none
returns-in_err-cents-clause-none c = rw c.from_residual.ensures (λ height is. c.in_err-cents.ensures.none is.cents is.spelled (omega (arith, is.low)))

pub returns-then-cents-gt-SPHEROID-clause-none : goal.returns-then-cents-gt-SPHEROID-clause-none
returns-then-cents-gt-SPHEROID-clause-none c = λ height is. omega (arith, decimal_once 2 (without_metres c.args.text.now) c.in_ok-cents.cents is.cents c.in_ok-cents.ensures.value is.spelled, is.low, c.if-cents-gt-SPHEROID.true)

pub returns-clause-value : goal.returns-clause-value
returns-clause-value c = record { cents = c.in_ok-cents.cents; spelled = c.in_ok-cents.ensures.value; low = omega (arith, c.if-cents-gt-SPHEROID.false) }
