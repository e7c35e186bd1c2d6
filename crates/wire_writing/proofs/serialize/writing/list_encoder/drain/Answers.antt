use Rattle.std.proofs.Common.{rules, refl}
use Rattle.wire_writing.proofs.lemmas.serialize.writing.RecordLists.{nows}
use Rattle.wire_writing.proofs.serialize.writing.list_encoder.drain.Goals as goal

pub returns : goal.returns
returns g c = (nows c.loop-record.yielded, (c.loop-record.yielded, search rules, refl))
