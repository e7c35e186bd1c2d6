use Rattle.zones.proofs.OwnerNames.{owners_of_records}
use Rattle.zones.proofs.OwnersStay as stay
use Rattle.zones.proofs.laws.owners_stay.Goals as goal

pub returns-clause-sets : goal.returns-clause-sets
returns-clause-sets g c = owners_of_records

pub returns-clause-requests : goal.returns-clause-requests
returns-clause-requests g c = stay.owners_stay c.identities.ensures.zones c.identities.ensures.records g.V.Verifier

pub returns-clause-by_rules : goal.returns-clause-by_rules
returns-clause-by_rules g c = stay.owners_stay_by_rules c.identities.ensures.zones c.identities.ensures.records g.V.Verifier
