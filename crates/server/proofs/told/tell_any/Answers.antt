use Rattle.server.proofs.told.tell_any.Goals as goal

pub returns-clause-told : goal.returns-clause-told
returns-clause-told g c = c.tell_from.ensures.told c.args.source.now c.args.port c.in-Some.ensures.some
