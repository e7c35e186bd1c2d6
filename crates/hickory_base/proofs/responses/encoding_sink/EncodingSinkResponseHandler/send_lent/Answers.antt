use Rattle.std.proofs.Common.{◌≡◌, ◌∙◌, ◌++◌, ◌∷◌, [], ap}
use Rattle.std.specs.Option.{option_copied}
use Rattle.wire_messages.specs.serialize.writing.Reply.{size_limit}
use Rattle.hickory_wire.specs.serialize.writing.ReplyParts.{ReplyEncoded}
use Rattle.hickory_base.specs.responses.EncodingSinks.{EncodedReplies}
use Rattle.hickory_base.specs.responses.Responses.{header_of, lent_reply}
use Rattle.hickory_base.proofs.lemmas.responses.LentReplies.{lent_at}
use Rattle.hickory_base.proofs.lemmas.responses.RecordSlices.{given_by_slice}
use Rattle.hickory_base.proofs.responses.encoding_sink.EncodingSinkResponseHandler.send_lent.Goals as goal

pub returns-in-Ok-push-clause-ok : goal.returns-in-Ok-push-clause-ok
returns-in-Ok-push-clause-ok c =
    let w = c.in-Ok.ensures.encoded in
    let same : c.from_vec.result ≡ c.encode_message_parts_in.new.bytes.items = c.from_vec.ensures ∙ ap (λ v. v.items) c.replace-bytes.ensures.value in
    let limit : c.size_limit-limit.result ≡ size_limit c.args.self.now.protocol (option_copied c.args.edns) =
    c.size_limit-limit.ensures ∙ ap (λ (s : EncodedReplies). size_limit s.protocol (option_copied c.args.edns)) c.self.view_is in
    let made : ReplyEncoded (size_limit c.args.self.now.protocol (option_copied c.args.edns)) (lent_reply c.args.queries.now (option_copied c.args.edns) c.args.metadata c.args.answers.now c.args.authorities.now c.args.additionals.now) c.from_vec.result (header_of c.from.result) =
    lent_at c.args.queries.now (option_copied c.args.edns) c.args.metadata limit c.as_bytes.ensures c.count.ensures (given_by_slice w.1.answers_given c.iter.ensures.rest) (given_by_slice w.1.authorities_given c.iter-2.ensures.rest)
    (given_by_slice w.1.soa_given c.iter-3.ensures.rest) (given_by_slice w.1.additionals_given c.iter-4.ensures.rest) same c.from.ensures w.2 in
    record {
      entry = c.from_vec.result;
      is_held = ((header_of c.from.result, made), made);
      grew = c.in-Ok-push.ensures.ok ∙ ap (λ (s : EncodedReplies). s.replies ++ c.from_vec.result ∷ []) c.self.view_is;
    }
