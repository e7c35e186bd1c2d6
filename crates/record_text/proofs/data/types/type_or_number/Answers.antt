use Rattle.std.proofs.Common.{sym, subst}
use Rattle.record_text.specs.RecordText.{SpellsLowType}
use Rattle.record_text.specs.RecordText.SpellsLowType.{named, numbered}
use Rattle.record_text.proofs.data.types.type_or_number.Goals as goal

pub returns-in-Ok-clause-spelled : goal.returns-in-Ok-clause-spelled
returns-in-Ok-clause-spelled c = (c.in-Ok.ensures.spelled.0, subst (SpellsLowType c.args.word.now.bytes.now) (sym c.value.ensures) (named c.in-Ok.ensures.spelled.1))

pub returns-in-Ok-number16-clause-spelled : goal.returns-in-Ok-number16-clause-spelled
returns-in-Ok-number16-clause-spelled c = (
  c.in-Ok-number16.ensures.spelled.0,
  numbered (λ n is. c.in-Err.ensures.refused n c.in-Ok-number16.ensures.spelled.0 is) c.in-Ok-number16.ensures.spelled.1,
)
