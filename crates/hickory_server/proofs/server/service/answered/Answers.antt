use Rattle.hickory_server.proofs.lemmas.server.Above.{none_asked}
use Rattle.hickory_server.proofs.server.service.answered.Goals as goal

pub passed-requires-clause-not_above : goal.passed-requires-clause-not_above
passed-requires-clause-not_above g c = none_asked c.args.catalog.now.zones c.args.request.now.message (rw c.message.ensures at c.in-None.ensures)
