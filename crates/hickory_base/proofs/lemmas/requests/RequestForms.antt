-- The parts that a request is written of make the form that it is written in.
use Rattle.std.proofs.Common.{◌≡◌, [], length, refl}
use Rattle.std.specs.Option.{option_copied}
use Rattle.std.specs.Slice.Iter.{iter_steps, iter_rest}
use Rattle.hickory_wire.specs.serialize.writing.ReplyParts.{GivesLists, RecordLists, reply_of}
use Rattle.hickory_wire.specs.declared.serialize.writing.message_encoder.ReplyParts.{ReplyParts}
use Rattle.hickory_base.specs.requests.RequestForm.{questions_form, written_form}
use Rattle.hickory_base.specs.declared.requests.message_request.MessageRequest.{MessageRequest}
use Rattle.hickory_base.proofs.lemmas.responses.RecordSlices.{given_by_slice}

-- iterators of the request's lists, and its questions anew
pub form_is : (m : MessageRequest) (parts : ReplyParts _ _ _ _) (lists : RecordLists) → GivesLists iter_steps iter_steps iter_steps iter_steps parts lists
    → parts.metadata ≡ m.metadata → parts.question.now ≡ questions_form m.queries.queries → parts.question_count ≡ length m.queries.queries → option_copied parts.edns ≡ m.edns
    → iter_rest parts.answers ≡ m.answers → iter_rest parts.authorities ≡ m.authorities → iter_rest parts.soa ≡ [] → iter_rest parts.additionals ≡ m.additionals → option_copied parts.signature ≡ m.signature
    → reply_of parts lists ≡ written_form m
form_is m parts lists gives metadata question count edns answers authorities soa additionals signature =
    let a : lists.answers ≡ m.answers = given_by_slice gives.answers_given answers in
    let n : lists.authorities ≡ m.authorities = given_by_slice gives.authorities_given authorities in
    let s : lists.soa ≡ [] = given_by_slice gives.soa_given soa in
    let d : lists.additionals ≡ m.additionals = given_by_slice gives.additionals_given additionals in
    rw (metadata, question, count, edns, a, n, s, d, signature) refl
