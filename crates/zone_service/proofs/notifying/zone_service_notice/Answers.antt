use Rattle.std.proofs.Common.{refl}
use Rattle.zone_service.proofs.notifying.zone_service_notice.Goals as goal

pub returns-in-Ok-Some-clause-sent : goal.returns-in-Ok-Some-clause-sent
returns-in-Ok-Some-clause-sent c done =
    let sends = rw c.in-Ok-Some.field-0-is at c.in-Ok-Some.ensures.ok in (
      c.in-Ok-Some.datagram,
      rw c.service.ensures.value at sends,
      c.put_address.ensures.address,
      refl,
      rw c.as_slice.ensures.value at c.put_text.ensures.count,
      rw c.as_slice.ensures.value at c.put_text.ensures.put,
    )
