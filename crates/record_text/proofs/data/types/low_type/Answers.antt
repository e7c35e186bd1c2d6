use Rattle.std.proofs.Common.{◌≡◌, arith}
use Rattle.record_text.proofs.OneLength.{low_type_once}
use Rattle.record_text.proofs.TypesOnce.{types_once}
use Rattle.record_text.proofs.data.types.low_type.Goals as goal
use Rattle.record_text.proofs.data.types.low_type.Goals.{then-number-eq0-via-then-number-eq0, then-number-eq0-via-else-number-eq0+then-number-gt127}

pub returns-then-number-eq0-clause-refused : goal.returns-then-number-eq0-clause-refused
returns-then-number-eq0-clause-refused c = λ n is.
    let same : n ≡ c.in_ok-number.number = low_type_once types_once c.args.word.now.bytes.now n c.in_ok-number.number is.1 c.in_ok-number.ensures.spelled.1 in
    elim c.then-number-eq0.branch [
      | then-number-eq0-via-then-number-eq0 w ↦ absurd (omega (arith, same, is.2, w.if-number-eq0.true))
      | then-number-eq0-via-else-number-eq0+then-number-gt127 w ↦ absurd (omega (arith, same, is.3, w.if-number-gt127.true))
    ]
