use Rattle.std.proofs.Common.{◌≡◌, List, subst, arith}
use Rattle.text_words.specs.declared.words.Word.{Word}
use Rattle.text_data.proofs.AngleWords.{angle_once}
use Rattle.text_data.specs.LocationText.{IsAngle, before_letter}
use Rattle.text_data.proofs.locations.coordinate.Goals as goal

pub returns-then-angle-from-clause-refused : goal.returns-then-angle-from-clause-refused
returns-then-angle-from-clause-refused c = λ value is.
    let there : IsAngle (before_letter c.args.axis.plus c.args.axis.minus c.args.words.now) c.in_ok-angle.angle = subst (λ (ws : List Word). IsAngle ws c.in_ok-angle.angle) c.cut_at_letter-cut.ensures.before c.in_ok-angle.ensures.spelled in
    let same : c.in_ok-angle.angle ≡ is.angle = angle_once (before_letter c.args.axis.plus c.args.axis.minus c.args.words.now) c.in_ok-angle.angle is.angle there is.measured in
    omega (arith, same, is.within, c.if-angle-from.true, c.from.ensures)
