use Rattle.std.proofs.Common.{◌≡◌, ℕ, List, true, false, length, refl}
use Rattle.record_text.specs.declared.data.moment.Date.{Date}
use Rattle.record_text.specs.Moments.{IsDate, SpellsDate, SpellsMoment}
use Rattle.record_text.specs.Moments.SpellsMoment.{date, seconds}
use Rattle.record_text.specs.RecordText.{HasNone}
use Rattle.record_text.proofs.NoMoment.{no_date, no_digits}
use Rattle.record_text.proofs.data.moment.moment.Goals as goal

pub returns-then-word-ne14-clause-spelled : goal.returns-then-word-ne14-clause-spelled
returns-then-word-ne14-clause-spelled c = (c.if-word.false, seconds c.if-word-ne14.true c.in-Some.ensures.number.0 c.in-Some.ensures.number.1)

pub returns-in_default-date_of_digits-clause-refused : goal.returns-in_default-date_of_digits-clause-refused
returns-in_default-date_of_digits-clause-refused c = λ n is. no_digits c.args.word.now.bytes.now c.if-word-ne14.false c.in_default-date_of_digits.ensures.none n is.1

pub returns-then-is_date-clause-spelled : goal.returns-then-is_date-clause-spelled
returns-then-is_date-clause-spelled c = (c.if-word.false, rw c.date_bits.ensures (date (c.if-is_date.ensures.0 refl) c.in-Some-date_of_digits.ensures.spelled))

no_day : (text : List ℕ) (d : Date) → length text ≡ 14 → SpellsDate text d → (IsDate d → false ≡ true) → HasNone (SpellsMoment text)
no_day text d len spelled told = no_date text d len spelled (λ is. let t : false ≡ true = told is in cc)

pub returns-clause-refused : goal.returns-clause-refused
returns-clause-refused c = λ n is. no_day c.args.word.now.bytes.now c.in-Some-date_of_digits.date c.if-word-ne14.false c.in-Some-date_of_digits.ensures.spelled c.if-is_date.ensures.1 n is.1
