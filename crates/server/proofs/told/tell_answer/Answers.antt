use Rattle.std.proofs.Common.{◌≡◌, rules}
use Rattle.server.proofs.told.tell_answer.Goals as goal

pub returns-in-Ok-clause-told : goal.returns-in-Ok-clause-told
returns-in-Ok-clause-told g c =
    let octets : c.in-Ok.octets ≡ c.args.source.now = search rules in
    c.tell_from.ensures.told c.args.source.now c.args.port (rw octets at c.source_of_four-source.ensures)
