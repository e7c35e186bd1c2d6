use Rattle.hickory_catalog.proofs.lemmas.replies.SentInOrder.{all_taken}
use Rattle.hickory_catalog.proofs.laws.replies_taken.Goals as goal

pub returns : goal.returns
returns g c = all_taken g.R.ResponseHandler
