use Rattle.std.specs.Prelude.{refl}
use Rattle.wire_names.proofs.lemmas.rr.domain.Ends.{ends-decides}
use Rattle.hickory_store.proofs.updates.laws.identities.Goals as goal

pub returns-clause-zones : goal.returns-clause-zones
returns-clause-zones c origin name = ends-decides origin.labels name.labels _ refl
