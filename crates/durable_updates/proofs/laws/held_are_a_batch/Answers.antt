-- By what the steps leave.
use Rattle.durable_updates.proofs.HeldBatches.{held, unwritten}
use Rattle.durable_updates.proofs.laws.held_are_a_batch.Goals as goal

pub returns-clause-written : goal.returns-clause-written
returns-clause-written g c = held g.V.Verifier g.D.Disk

pub returns-clause-unwritten : goal.returns-clause-unwritten
returns-clause-unwritten g c = unwritten g.V.Verifier g.D.Disk
