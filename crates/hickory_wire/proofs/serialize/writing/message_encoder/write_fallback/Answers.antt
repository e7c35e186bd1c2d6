use Rattle.wire_messages.proofs.lemmas.serialize.layout.VectorBytes.{are_bytes}
use Rattle.hickory_wire.proofs.serialize.writing.message_encoder.write_fallback.Goals as goal

pub returns-clause-bytes : goal.returns-clause-bytes
returns-clause-bytes c = are_bytes c.extend_from_slice.new.self.items c.type_inv.bytes
