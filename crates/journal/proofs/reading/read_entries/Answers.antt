-- A file that is split stands for its entries.
use Rattle.journal.specs.Read.{contents}
use Rattle.journal.proofs.Recovery.{split_stands}
use Rattle.journal.proofs.reading.read_entries.Goals as goal

pub returns-in-Ok-clause-stands : goal.returns-in-Ok-clause-stands
returns-in-Ok-clause-stands c = split_stands c.args.bytes.now (contents c.in-Ok.found.entries.items) c.in-Ok.found.end c.in-Ok.ensures
