use Rattle.std.proofs.Common.{arith}
use Rattle.text_data.proofs.DecimalOnce.{decimal_once}
use Rattle.text_data.proofs.angles.seconds_of.Goals as goal

pub returns-in_err-number-clause-none : goal.returns-in_err-number-clause-none
returns-in_err-number-clause-none c = rw c.from_residual.ensures (λ n is. c.in_err-number.ensures.none n is.0 (omega (arith, is.1)))

pub returns-then-number-ge60000-clause-none : goal.returns-then-number-ge60000-clause-none
returns-then-number-ge60000-clause-none c = λ n is. omega (arith, decimal_once 3 c.args.text.now c.in_ok-number.number n c.in_ok-number.ensures.value is.0, is.1, c.if-number-ge60000.true)
