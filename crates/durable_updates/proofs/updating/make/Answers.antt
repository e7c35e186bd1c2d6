-- A request that is refused leaves the journal.
use Rattle.durable_updates.proofs.Untouched.{left_alone}
use Rattle.durable_updates.proofs.updating.make.Goals as goal

pub returns-in-Err-clause-journals : goal.returns-in-Err-clause-journals
returns-in-Err-clause-journals g c = left_alone g.D.Disk.seen g.D.Disk.may_leave _ c.args.request.now.bytes c.args.journal.now

pub returns-in-Err-pre_scan-clause-journals : goal.returns-in-Err-pre_scan-clause-journals
returns-in-Err-pre_scan-clause-journals g c = left_alone g.D.Disk.seen g.D.Disk.may_leave _ c.args.request.now.bytes c.args.journal.now
