use Rattle.server.proofs.Results.{none_is}
use Rattle.server.proofs.service.put.Goals as goal

pub returns-then-branch-clause-put : goal.returns-then-branch-clause-put
returns-then-branch-clause-put c =
    let (was, changes, fresh) = c.in_ok-put_chain.ensures.put in rw (none_is was (fresh.0 c.if-branch.true)) at changes
