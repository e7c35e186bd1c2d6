use Rattle.server.proofs.settings.zone_name.Goals as goal

pub returns-in-Ok : goal.returns-in-Ok
returns-in-Ok c = rw c.in_ok-text.ensures at c.in-Ok.ensures.spelled
