use Rattle.hickory_store.proofs.lemmas.updates.NamesApart.{fold_by_name}
use Rattle.hickory_store.proofs.updates.laws.names_apart.Goals as goal

pub returns : goal.returns
returns c = λ by_rfc origin name updates zone. fold_by_name by_rfc origin name updates zone
