-- Life by life.
use Rattle.durable_updates.proofs.Histories.{runs_are_kept}
use Rattle.durable_updates.proofs.laws.runs_are_kept.Goals as goal

pub returns : goal.returns
returns g c = runs_are_kept g.V.Verifier g.D.Disk
