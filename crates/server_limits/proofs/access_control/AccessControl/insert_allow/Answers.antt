use Rattle.server_limits.proofs.access_control.AccessControl.insert_allow.Goals as goal

pub returns-clause-ok : goal.returns-clause-ok
returns-clause-ok c = rw (← c.self.view_is) c.insert.ensures.ok

pub returns-clause-err : goal.returns-clause-err
returns-clause-err c = rw (← c.self.view_is) c.insert.ensures.err
