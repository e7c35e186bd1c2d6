use Rattle.std.proofs.Common.{◌≢◌, rules}
use Rattle.wire_names.specs.serialize.layout.Bytes.{AreBytes}
use Rattle.hickory_wire.specs.serialize.writing.ReplyParts.{reply_of}
use Rattle.wire_names.specs.declared.error.ProtoError.TheVariants.{Memory}
use Rattle.hickory_wire.proofs.lemmas.serialize.writing.RepliesEncoded.{encoded_written, encoded_fallback, reply_encoded, where_both_ok}
use Rattle.hickory_wire.proofs.serialize.writing.message_encoder.encode_message_parts_in.Goals as goal

pub returns-in-Ok-clause-encoded : goal.returns-in-Ok-clause-encoded
returns-in-Ok-clause-encoded g c =
    let w = c.in-Ok.ensures.written in
    let reply = reply_of c.args.parts w.0 in
    let bytes = c.write_reply.new.bytes.items in
    let are : AreBytes bytes = c.in-Ok.ensures.bytes in
    (w.0, w.1, reply_encoded c.args.limit reply bytes c.in-Ok.header are (encoded_written c.args.limit reply bytes c.in-Ok.header w.2))

pub returns-in-Err-clause-encoded : goal.returns-in-Err-clause-encoded
returns-in-Err-clause-encoded g c =
    let other : c.in-Err.field-0 ≢ Memory = search rules in
    let w = c.in-Err.ensures.refused other in
    let reply = reply_of c.args.parts w.0 in
    let bytes = c.write_fallback.new.bytes.items in
    where_both_ok c.write_fallback.result c.write_fallback.ensures.bytes c.write_fallback.ensures.written
    (λ header are f. (w.0, w.1, reply_encoded c.args.limit reply bytes header are (encoded_fallback c.args.limit reply bytes header c.in-Err.field-0 f.0 f.1 w.2)))
