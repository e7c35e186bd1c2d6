use Rattle.server.proofs.service.Service.fail_zone.Goals as goal

pub returns-clause-ok : goal.returns-clause-ok
returns-clause-ok c = (c.in_ok-apex.apex, c.in_ok-apex.ensures, c.in_ok-push.ensures.items, rw c.new.ensures.items at c.in_ok-put.ensures.put)
