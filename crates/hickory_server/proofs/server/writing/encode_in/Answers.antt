use Rattle.std.proofs.Common.{◌≡◌, ℕ, List}
use Rattle.wire_messages.specs.serialize.writing.Reply.{Reply}
use Rattle.wire_messages.specs.declared.op.header.Header.{Header}
use Rattle.hickory_wire.specs.serialize.writing.ReplyParts.{RecordLists, ReplyEncoded}
use Rattle.hickory_base.proofs.lemmas.responses.RecordSlices.{given_by_slice}
use Rattle.hickory_server.specs.server.Written.{said}
use Rattle.hickory_server.proofs.server.writing.encode_in.Goals as goal

-- the reply of the lists that were given
encoded_lists : {limit : ℕ} {header : Header} {bytes : List ℕ} (reply : RecordLists → Reply) {given lent : RecordLists}
    → given.answers ≡ lent.answers → given.authorities ≡ lent.authorities → given.soa ≡ lent.soa → given.additionals ≡ lent.additionals
    → ReplyEncoded limit (reply given) bytes header → ReplyEncoded limit (reply lent) bytes header
encoded_lists reply a n s d made = rw (← a, ← n, ← s, ← d) made

pub returns-in-Ok : goal.returns-in-Ok
returns-in-Ok c =
    let w = c.in-Ok.ensures.encoded in
    let contents = c.args.contents.now in
    encoded_lists
    (λ (l : RecordLists). record (said contents) { answers = l.answers; authorities = l.authorities; soa = l.soa; additionals = l.additionals })
    (given_by_slice w.1.answers_given c.iter.ensures.rest) (given_by_slice w.1.authorities_given c.iter-2.ensures.rest)
    (given_by_slice w.1.soa_given c.iter-3.ensures.rest) (given_by_slice w.1.additionals_given c.iter-4.ensures.rest) w.2
