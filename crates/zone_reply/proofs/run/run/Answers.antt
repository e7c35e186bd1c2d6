use Rattle.std.proofs.Common.{Ok, Err}
use Rattle.zone_reply.proofs.run.run.Goals as goal

pub returns-in-Ok-clause-prints : goal.returns-in-Ok-clause-prints
returns-in-Ok-clause-prints g c = (Ok c.in-Ok.lines.items, c.in-Ok.ensures.answer, rw c.as_slice.ensures.value at c.print.ensures)

pub returns-in-Err-clause-prints : goal.returns-in-Err-clause-prints
returns-in-Err-clause-prints g c = (Err c.in-Err.refusal, c.in-Err.ensures.answer, rw (c.line.ensures, c.status.ensures) at c.print-in-Err.ensures)
