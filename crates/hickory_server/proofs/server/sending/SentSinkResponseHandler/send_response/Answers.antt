use Rattle.std.proofs.Common.{◌≡◌, ◌∙◌, Result, Ok, Err, IfOk, length, refl, ap}
use Rattle.std.specs.Prelude.{OnOk}
use Rattle.std.specs.Option.{option_copied}
use Rattle.wire_messages.specs.serialize.writing.Reply.{Reply}
use Rattle.hickory_base.specs.responses.Responses.{lent_reply}
use Rattle.hickory_server.specs.server.Sending.{SentReplies}
use Rattle.hickory_server.specs.server.Written.{said}
use Rattle.hickory_server.proofs.server.sending.SentSinkResponseHandler.send_response.Goals as goal

-- what holds where there is a value leads to more of it
on_ok : {T E : Type 0} (result : Result T E) (P : Type 0) (Q : T → Type 0) → OnOk result P → (P → (value : T) → Q value) → IfOk result Q
on_ok (Ok value) P Q h f = f h value
on_ok (Err e) P Q h f = tt

pub returns-clause-ok : goal.returns-clause-ok
returns-clause-ok g c =
    let reply : Reply = record {
      metadata = c.args.response.metadata;
      question = c.args.response.queries.now.bytes;
      question_count = length c.args.response.queries.now.queries;
      edns = option_copied c.args.response.edns;
      answers = c.in-Ok.answers.items;
      authorities = c.in-Ok-gathered.authorities.items;
      soa = c.in-Ok-gathered-2.soa.items;
      additionals = c.in-Ok-gathered-3.additionals.items;
      signature = c.args.response.signature;
    } in
    let completed = λ (r : Reply). let with_both : Reply = record r { soa = c.as_slice-4.result.now; signature = option_copied c.borrowed.result } in with_both in
    let lent : said c.with_soa-reply.result ≡ completed (lent_reply c.args.response.queries.now (option_copied c.args.response.edns) c.args.response.metadata c.as_slice.result.now c.as_slice-2.result.now c.as_slice-3.result.now) =
    c.with_soa-reply.ensures ∙ ap completed c.lent-lent.ensures in
    let same : said c.with_soa-reply.result ≡ reply = rw (c.as_slice.ensures.value, c.as_slice-2.ensures.value, c.as_slice-3.ensures.value, c.as_slice-4.ensures.value, c.borrowed.ensures) at lent in
    on_ok c.keep.result _ _ c.keep.ensures.kept
    (λ (bytes, sent, grew) info. (
      reply,
      record {
        metadata = refl;
        question = refl;
        question_count = refl;
        edns = refl;
        answers = c.in-Ok.ensures;
        authorities = c.in-Ok-gathered.ensures;
        soa = c.in-Ok-gathered-2.ensures;
        additionals = c.in-Ok-gathered-3.ensures;
        signature = refl;
      },
      record { entry = bytes; is_held = (rw same at sent, tt); grew = ap (λ (s : SentReplies). s.replies) grew },
    ))
