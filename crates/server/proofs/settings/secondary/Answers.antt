use Rattle.server.proofs.settings.secondary.Goals as goal

pub returns : goal.returns
returns c = (c.in_ok-apex.ensures, rw c.in_ok-text_of.ensures at c.in_ok-target.ensures)
