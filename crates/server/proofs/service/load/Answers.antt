use Rattle.server.proofs.service.load.Goals as goal

pub returns-clause-loaded : goal.returns-clause-loaded
returns-clause-loaded c = record {
  spelled = c.in_ok-apex.ensures;
  zone = c.in_ok-zone.zone.updatable.zone;
  of_file = c.in_ok-zone.ensures.read;
  chain = c.in_ok-chain.chain.items;
  chained = rw c.in_ok-zone.ensures.zone at c.in_ok-chain.ensures;
  changed = c.in_ok-put.ensures.put;
}
