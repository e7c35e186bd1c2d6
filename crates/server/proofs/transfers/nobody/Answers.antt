use Rattle.std.proofs.Common.{arith}
use Rattle.server.proofs.transfers.nobody.Goals as goal

pub returns-clause-denied : goal.returns-clause-denied
returns-clause-denied c = rw (c.as_slice.ensures.value, c.in_ok-all.ensures) at c.in_ok-access.ensures.denied

pub returns-clause-allowed : goal.returns-clause-allowed
returns-clause-allowed c = λ network held. let (place, below, is) = (c.in_ok-access.ensures.allowed network).0 held in omega (arith, below)
