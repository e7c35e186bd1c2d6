-- By what one difference leads to.
use Rattle.zone_differences.proofs.Leading.{recorded_lead}
use Rattle.zone_differences.proofs.laws.recorded_lead.Goals as goal

pub returns : goal.returns
returns c = recorded_lead c.differences_lead.ensures.leads c.differences_lead.ensures.respects
