use Rattle.std.proofs.Common.{inl, inr}
use Rattle.hickory_catalog.proofs.sending.send_lent.Goals as goal

pub returns-in-Ok : goal.returns-in-Ok
returns-in-Ok g c = (c.in-Ok.ensures.settled, inl (record { uncounted = c.in-Ok.ensures.uncounted; added = c.in-Ok.ensures.ok }))

pub returns-in-Err : goal.returns-in-Err
returns-in-Err g c = (c.in-Err.ensures.settled, inr (record { counted = c.in-Err.ensures.counted; added = c.in-Err.ensures.err; informed = c.failure.ensures }))
