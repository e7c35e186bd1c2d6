use Rattle.signed_answers.proofs.lemmas.ShownSetsProved.{shown_sets_prove}
use Rattle.signed_answers.proofs.laws.shown_sets_prove.Goals as goal

pub returns : goal.returns
returns c = shown_sets_prove
