use Rattle.zone_serve.proofs.rules.rules_of.Goals as goal

pub returns-clause-denied : goal.returns-clause-denied
returns-clause-denied c = rw (c.deref-2.ensures.value, c.in_ok-denied.ensures) at c.in_ok-server.ensures.denied

pub returns-clause-allowed : goal.returns-clause-allowed
returns-clause-allowed c = rw (c.deref-3.ensures.value, c.in_ok-allowed.ensures, c.deref.ensures.value) at c.in_ok-server.ensures.allowed

pub returns-clause-transfers_denied : goal.returns-clause-transfers_denied
returns-clause-transfers_denied c = rw (c.deref-6.ensures.value, c.in_ok-refused.ensures, c.deref-4.ensures.value) at c.in_ok-transfers.ensures.denied

pub returns-clause-transfers_allowed : goal.returns-clause-transfers_allowed
returns-clause-transfers_allowed c = rw (c.deref-7.ensures.value, c.in_ok-receivers.ensures, c.deref-5.ensures.value) at c.in_ok-transfers.ensures.allowed
