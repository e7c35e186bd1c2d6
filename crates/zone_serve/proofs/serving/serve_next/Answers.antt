use Rattle.std.proofs.Common.{◌≡◌, refl, rules, true}
use Rattle.hickory_server.specs.declared.server.serve.Incoming.{Incoming}
use Rattle.wire_messages.specs.declared.protocol.Protocol.TheVariants.{Tcp}
use Rattle.zone_serve.proofs.serving.serve_next.Goals as goal

pub returns-clause-served : goal.returns-clause-served
returns-clause-served g c =
    let is_message : c.in_ok-next_message_in.field-0 ≡ true = search rules in
    let (frame, is_frame, consumes) = rw is_message at c.in_ok-next_message_in.ensures in
    let (now, answered) = rw (c.as_slice-bytes.ensures.value, c.in_ok-replies.ensures) at c.in_ok-answer.ensures.answered in
    let message : Incoming = record { bytes = c.next_message_in.new.message; src = c.args.source; protocol = Tcp; now = now } in
    let (frames, are_frames, appends) = rw c.as_slice.ensures at c.in_ok-write_frames.ensures in (
      frame,
      frames,
      (c.next_message_in.new.message.items, is_frame, message, record { protocol_is = refl; address_is = refl; bytes_are = refl }, c.in_ok-replies.replies, answered, are_frames),
      consumes,
      appends,
    )
