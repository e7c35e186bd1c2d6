use Rattle.std.proofs.Common.{false, refl}
use Rattle.wire_writing.proofs.lemmas.serialize.writing.RecordLists.{adds_none}
use Rattle.wire_writing.proofs.serialize.writing.list_encoder.write_optional_edns.Goals as goal

pub returns-in-None-clause-written : goal.returns-in-None-clause-written
returns-in-None-clause-written c = rw c.in-None.is (false, adds_none c.args.limit c.args.stops.now c.args.bytes.now.items, refl)
