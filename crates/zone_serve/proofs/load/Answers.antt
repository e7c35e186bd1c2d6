use Rattle.server.proofs.Results.{none_is}
use Rattle.zone_serve.proofs.load.Goals as goal

pub returns-then-branch-clause-loaded : goal.returns-then-branch-clause-loaded
returns-then-branch-clause-loaded g c =
    let (was, changes, fresh) = c.in_ok-put_chain.ensures.put in record {
      spelled = c.in_ok-apex.ensures;
      zone = c.in-Ok.zone.updatable.zone;
      of_file = c.in-Ok.ensures.read;
      chain = c.in_ok-chain.chain.items;
      chained = rw c.in-Ok.ensures.zone at c.in_ok-chain.ensures;
      changed = rw (none_is was (fresh.0 c.if-branch.true)) at changes;
    }
