use Rattle.hickory_catalog.proofs.lemmas.zones.OneAnswer.{one_answer}
use Rattle.hickory_catalog.proofs.zones.find_laws.Goals as goal

pub returns-clause-one : goal.returns-clause-one
returns-clause-one g c = λ zones name one other sorted f h. one_answer zones name one other sorted f h
