use Rattle.hickory_server.proofs.lemmas.server.Above.{none_asked}
use Rattle.hickory_server.proofs.server.above.chain_above.Goals as goal

pub returns-in_default : goal.returns-in_default
returns-in_default g c = none_asked c.args.catalog.now.zones c.args.request.now.message (rw c.message.ensures at c.in_default.ensures)
