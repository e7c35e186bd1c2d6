use Rattle.std.proofs.Common.{◌≡◌, List, ℕ, refl, sym}
use Rattle.std.specs.Option.{option_copied}
use Rattle.wire_messages.specs.serialize.writing.Reply.{Reply}
use Rattle.hickory_wire.specs.serialize.writing.ReplyParts.{ReplyEncoded}
use Rattle.wire_messages.specs.declared.op.header.Header.{Header}
use Rattle.hickory_base.proofs.responses.response_encoding.encode_response.Goals as goal

-- the reply that was encoded, at the limit and with the header that the contract names
encoded_at : {limit named : ℕ} {header told : Header} {reply : Reply} {bytes : List ℕ} → limit ≡ named → told ≡ header → ReplyEncoded limit reply bytes header → ReplyEncoded named reply bytes told
encoded_at {reply = reply} {bytes = bytes} e f made = rw (sym e, f) made

pub returns-clause-encoded : goal.returns-clause-encoded
returns-clause-encoded g c =
    let w = c.in_ok-header.ensures.encoded in
    let reply : Reply = record {
      metadata = c.args.response.metadata;
      question = c.as_bytes.result.now;
      question_count = c.count.result;
      edns = option_copied c.args.response.edns;
      answers = w.0.answers;
      authorities = w.0.authorities;
      soa = w.0.soa;
      additionals = w.0.additionals;
      signature = option_copied c.borrowed.result;
    } in (
      reply,
      record {
        metadata = refl;
        question = c.as_bytes.ensures;
        question_count = c.count.ensures;
        edns = refl;
        answers = w.1;
        authorities = w.2;
        soa = w.3;
        additionals = w.4;
        signature = c.borrowed.ensures;
      },
      encoded_at c.size_limit.ensures c.from.ensures w.5,
    )
