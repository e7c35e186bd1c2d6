use Rattle.signed_answers.specs.ShownSets.{nowhere}
use Rattle.signed_answers.proofs.denials.of_missing.Goals as goal

pub returns-in_default : goal.returns-in_default
returns-in_default c = λ origin owners missing. let found = c.in_ok-encloser.ensures origin owners in nowhere (rw c.in_default.is at found)

pub returns : goal.returns
returns c = λ origin owners missing. let found = c.in_ok-encloser.ensures origin owners in c.of_encloser.ensures missing (rw c.in-Some.is at found)
