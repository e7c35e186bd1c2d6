-- A request that was not read leaves the journal.
use Rattle.durable_updates.proofs.Untouched.{left_alone}
use Rattle.durable_updates.proofs.updating.write.Goals as goal

pub returns-then-not-was_read-clause-journals : goal.returns-then-not-was_read-clause-journals
returns-then-not-was_read-clause-journals g c = left_alone g.D.Disk.seen g.D.Disk.may_leave _ c.args.request.now.bytes c.args.journal.now
