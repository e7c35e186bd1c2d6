use Rattle.hickory_store.proofs.lemmas.updates.ApexSoa.{soa_stays}
use Rattle.hickory_store.proofs.lemmas.updates.DataTypes.{one_type}
use Rattle.hickory_store.proofs.lemmas.updates.SerialSteps.{serial_steps}
use Rattle.hickory_store.proofs.updates.laws.serial_steps.Goals as goal

pub returns : goal.returns
returns c = serial_steps (soa_stays (one_type c.record_comparisons.ensures.rdata))
