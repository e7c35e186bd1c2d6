-- By the identities of records.
use Rattle.zone_differences.proofs.Applying.{leads, respects}
use Rattle.zone_differences.proofs.laws.differences_lead.Goals as goal

pub returns-clause-leads : goal.returns-clause-leads
returns-clause-leads c = leads c.identities.ensures.records

pub returns-clause-respects : goal.returns-clause-respects
returns-clause-respects c = respects c.identities.ensures.records
