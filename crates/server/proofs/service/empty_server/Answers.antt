use Rattle.server.proofs.service.empty_server.Goals as goal

pub returns-clause-denied : goal.returns-clause-denied
returns-clause-denied c = rw (c.in_ok-signed.ensures.server, c.in_ok-server.ensures.rules) c.new-rules.ensures.deny

pub returns-clause-allowed : goal.returns-clause-allowed
returns-clause-allowed c = rw (c.in_ok-signed.ensures.server, c.in_ok-server.ensures.rules) c.new-rules.ensures.allow

pub returns-clause-transfers_denied : goal.returns-clause-transfers_denied
returns-clause-transfers_denied c = rw (c.in_ok-signed.ensures.server, c.in_ok-server.ensures.rules) c.in_ok-rules.ensures.denied

pub returns-clause-transfers_allowed : goal.returns-clause-transfers_allowed
returns-clause-transfers_allowed c = rw (c.in_ok-signed.ensures.server, c.in_ok-server.ensures.rules) c.in_ok-rules.ensures.allowed
