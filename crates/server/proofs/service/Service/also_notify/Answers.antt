use Rattle.server.proofs.service.Service.also_notify.Goals as goal

pub returns-clause-ok : goal.returns-clause-ok
returns-clause-ok c = (c.in_ok-told.told, c.in_ok-told.ensures, rw c.deref.ensures.value at c.in_ok-see_zone.ensures, c.in_ok-push.ensures.items)
