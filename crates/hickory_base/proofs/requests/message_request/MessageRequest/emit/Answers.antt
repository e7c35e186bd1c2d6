use Rattle.std.proofs.Common.{◌∙◌, ap, subst, refl}
use Rattle.std.proofs.lemmas.Result.{IfOk-weaker, IfErr-weaker}
use Rattle.hickory_wire.specs.serialize.writing.Encoder.{max_size, written_bytes}
use Rattle.wire_messages.specs.serialize.writing.Reply.{Reply}
use Rattle.hickory_wire.specs.serialize.writing.ReplyParts.{CannotBeWritten, ReplyWritten}
use Rattle.hickory_base.specs.requests.RequestForm.{questions_form}
use Rattle.hickory_base.proofs.lemmas.requests.RequestForms.{form_is}
use Rattle.hickory_base.proofs.requests.message_request.MessageRequest.emit.Goals as goal

pub returns-clause-written : goal.returns-clause-written
returns-clause-written c =
    let question = c.as_slice.ensures.value ∙ c.in_ok-question.ensures ∙ ap questions_form c.queries.ensures in
    IfOk-weaker c.emit_message_parts.result _ _ (λ header w.
    subst (λ (reply : Reply). ReplyWritten (max_size c.args.encoder.now) reply (written_bytes c.emit_message_parts.new.encoder) header)
    (form_is c.args.self.now _ w.0 w.1 refl question c.count.ensures c.as_ref.ensures.value (c.iter.ensures.rest ∙ c.as_slice-2.ensures) (c.iter-2.ensures.rest ∙ c.as_slice-3.ensures) c.iter-3.ensures.rest (c.iter-4.ensures.rest ∙ c.as_slice-4.ensures) c.borrowed.ensures)
    w.2)
    c.emit_message_parts.ensures.written

pub returns-clause-refused : goal.returns-clause-refused
returns-clause-refused c =
    let question = c.as_slice.ensures.value ∙ c.in_ok-question.ensures ∙ ap questions_form c.queries.ensures in
    IfErr-weaker c.emit_message_parts.result _ _ (λ e refused no_want.
    let w = refused no_want in
    subst (λ (reply : Reply). CannotBeWritten (max_size c.args.encoder.now) reply e)
    (form_is c.args.self.now _ w.0 w.1 refl question c.count.ensures c.as_ref.ensures.value (c.iter.ensures.rest ∙ c.as_slice-2.ensures) (c.iter-2.ensures.rest ∙ c.as_slice-3.ensures) c.iter-3.ensures.rest (c.iter-4.ensures.rest ∙ c.as_slice-4.ensures) c.borrowed.ensures)
    w.2)
    c.emit_message_parts.ensures.refused
