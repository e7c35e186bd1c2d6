use Rattle.server_limits.proofs.lemmas.Spelling.{no_numeral, none_empty, some_digits, too_long}
use Rattle.server_limits.proofs.access_control.text.prefix_length.Goals.{then-is_empty-via-then-is_empty, then-is_empty-via-else-is_empty+then-not-are_digits}
use Rattle.server_limits.proofs.access_control.text.prefix_length.Goals as goal

pub returns-then-is_empty : goal.returns-then-is_empty
returns-then-is_empty c = elim c.then-is_empty.branch [
  | then-is_empty-via-then-is_empty w ↦ none_empty c.args.digits.now c.is_empty.result c.is_empty.ensures w.if-is_empty.true
  | then-is_empty-via-else-is_empty+then-not-are_digits w ↦ no_numeral c.args.digits.now w.are_digits.result w.are_digits.ensures w.if-not-are_digits.true
]

pub returns-in-Err : goal.returns-in-Err
returns-in-Err c =
    let parsed = c.in-Err.ensures.value in
    too_long c.args.digits.now c.in-Err.field-0 c.are_digits.result c.are_digits.ensures c.if-not-are_digits.false
    (some_digits c.args.digits.now c.is_empty.result c.is_empty.ensures c.if-is_empty.false) parsed.0
