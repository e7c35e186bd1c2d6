-- The replies to a message read back from their bytes.
use Rattle.std.proofs.Common.{◌≡◌, ℕ, ◌+◌, ◌-◌, ◌≤◌, List, [], ◌∷◌, length, take, drop, Option, ap, sym, subst, arith}
use Rattle.std.proofs.lemmas.List.{length-take}
use Rattle.std.specs.List.{AllByRecursion, AllZip}
use Rattle.wire_names.specs.rr.domain.DomainName.{name_len}
use Rattle.wire_messages.specs.op.EdnsFields.{EdnsFields}
use Rattle.wire_messages.specs.declared.op.query.Query.{Query}
use Rattle.wire_messages.specs.declared.protocol.Protocol.{Protocol}
use Rattle.wire_messages.specs.serialize.layout.MessageLayout.{ItemsAt}
use Rattle.wire_messages.specs.serialize.layout.NameLayout.{LabelsAt}
use Rattle.wire_messages.specs.serialize.layout.NameLayout.LabelsAt.{at_end, at_label, at_pointer}
use Rattle.wire_messages.specs.serialize.layout.QuestionLayout.{QuestionAt}
use Rattle.wire_messages.specs.serialize.writing.Reply.{Reply, size_limit}
use Rattle.wire_reading.specs.serialize.layout.WholeMessage.{MessageAt}
use Rattle.hickory_base.specs.requests.RepeatableQuestions.{AreRepeatable, HasRepeatableQuestions}
use Rattle.hickory_base.specs.requests.RequestReading.{IsQuestionSection, message_of}
use Rattle.hickory_base.specs.requests.Requests.{ReceivedRequest}
use Rattle.hickory_base.specs.responses.EncodingSinks.{IsEncodingOf}
use Rattle.hickory_base.specs.declared.zone_store.handler.ZoneHandler.{Ghosts}
use Rattle.hickory_catalog.specs.replies.DecodedReplies.{CatalogReplyDecodes, RepliesTo, ReplyEdnsFits, RequestRepliesFit}
use Rattle.hickory_catalog.specs.replies.ReplyEdns.{reply_edns, with_high_code}
use Rattle.hickory_catalog.specs.replies.Signing.{Signer}
use Rattle.hickory_server.specs.server.DecodedOutcomes.{AnswersReadBack, IsReadBack, OneQuestionHasRoom, StepsReadBack}
use Rattle.hickory_server.specs.server.Serving.{denied, handled, unreadable}

-- the questions of a request that was read can be repeated
abbrev pub Repeats : Type 0
Repeats = (bytes : List ℕ) (request : ReceivedRequest) → MessageAt bytes (message_of request.message) → IsQuestionSection bytes request.message.queries → request.bytes ≡ bytes
    → AreRepeatable bytes request.message.queries.queries → HasRepeatableQuestions request

module _ (decodes : CatalogReplyDecodes) (protocol : Protocol) (request : ReceivedRequest) (edns : Option EdnsFields) (questions : HasRepeatableQuestions request) where
  reads_back : (reply : Reply) (bytes : List ℕ) → RepliesTo request.message edns reply → IsEncodingOf protocol reply bytes → IsReadBack protocol request.message.queries reply bytes
  reads_back reply bytes to made = λ readable room. (made.0, decodes request edns reply (size_limit protocol reply.edns) bytes made.0 to questions readable room made.1)

  all_read : (replies : List Reply) (encoded : List (List ℕ)) → AllByRecursion (RepliesTo request.message edns) replies → AllZip (IsEncodingOf protocol) replies encoded → AllZip (IsReadBack protocol request.message.queries) replies encoded
  all_read [] [] to made = made
  all_read [] (bytes ∷ others) to made = absurd made
  all_read (reply ∷ replies) [] to made = absurd made
  all_read (reply ∷ replies) (bytes ∷ others) to made = (reads_back reply bytes to.0 made.0, all_read replies others to.1 made.1)

module _ {S H : Type 0} (handler : Ghosts H) (signature_for : S → Signer) (fit : RequestRepliesFit handler signature_for) (decodes : CatalogReplyDecodes) where
  pub answers_read : AnswersReadBack handler signature_for
  answers_read catalog request now replies zones protocol encoded answered questions made =
      all_read decodes protocol request (reply_edns catalog.nsid request.message.edns) questions replies encoded (fit catalog request now replies zones answered) made

  pub steps_read : Repeats → StepsReadBack handler signature_for
  steps_read repeats over access catalog message outcome zones encoded (denied _ is _) out = absurd cc
  steps_read repeats over access catalog message outcome zones encoded (unreadable _ _ is _) out = absurd cc
  steps_read repeats over access catalog message outcome zones encoded (handled {request = r} {replies = replies} {encoded = made} allowed is answered are out') out =
      let same : made ≡ encoded = cc in
      record {
        request = r;
        is_request = is;
        replies = replies;
        answered = answered;
        read_back = λ repeatable.
            answers_read catalog r message.now replies zones over encoded answered (repeats message.bytes.items r is.stands is.questions is.raw repeatable)
            (subst (λ (bs : List (List ℕ)). AllZip (IsEncodingOf over) replies bs) same are);
      }

-- ---- room for one question

floor_low : {floor : ℕ} {bytes : List ℕ} {start place next : ℕ} {labels : List (List ℕ)} → LabelsAt floor bytes start place labels next → floor ≤ place
floor_low (at_end low s e) = low
floor_low (at_label low l s e more) = low
floor_low (at_pointer high second goal past low s e lt after more) = low

-- where no pointer is left to lead to, labels stand in full
full_len : {floor : ℕ} {bytes : List ℕ} {start place next : ℕ} {labels : List (List ℕ)} → start ≤ floor → LabelsAt floor bytes start place labels next → next ≡ place + name_len labels
full_len first (at_end low s e) = e
full_len first (at_label low l s e more) = omega (arith, e, full_len first more)
full_len first (at_pointer high second goal past low s e lt after more) = absurd (omega (arith, lt, floor_low more))

question_small : (bytes : List ℕ) (query : Query) (stop : ℕ) → ItemsAt (QuestionAt 12 bytes) 12 (query ∷ []) stop → stop ≤ 271
question_small bytes query stop (middle, stands, is) = omega (arith, is, stands.after, full_len (omega arith) stands.name.labels, stands.name.short)

module _ (protocol : Protocol) (request : ReceivedRequest) (edns : Option EdnsFields) (small : 12 + length request.message.queries.bytes ≤ 512)
    (limit : (code : ℕ) → 512 ≤ size_limit protocol (with_high_code code edns)) where
  all_room : (replies : List Reply) → AllByRecursion (RepliesTo request.message edns) replies → AllByRecursion (λ (reply : Reply). 12 + length request.message.queries.bytes ≤ size_limit protocol reply.edns) replies
  all_room [] to = tt
  all_room (reply ∷ replies) to =
      let fits = to.0 in
      let wide : 512 ≤ size_limit protocol reply.edns = subst (λ (o : Option EdnsFields). 512 ≤ size_limit protocol o) (sym fits.edns_is) (limit reply.metadata.response_code) in
      (omega arith, all_room replies to.1)

module _ {S H : Type 0} (handler : Ghosts H) (signature_for : S → Signer) (fit : RequestRepliesFit handler signature_for) (wide : ReplyEdnsFits) where
  pub one_has_room : OneQuestionHasRoom handler signature_for
  one_has_room catalog request now replies zones protocol query answered questions one =
      let edns = reply_edns catalog.nsid request.message.edns in
      let stand : ItemsAt (QuestionAt 12 (take questions.stop request.bytes)) 12 (query ∷ []) questions.stop =
      subst (λ (qs : List Query). ItemsAt (QuestionAt 12 (take questions.stop request.bytes)) 12 qs questions.stop) one questions.stand in
      let small : 12 + length request.message.queries.bytes ≤ 512 =
      omega (arith, ap length questions.bytes_are, length-take (questions.stop - 12) (drop 12 request.bytes), question_small (take questions.stop request.bytes) query questions.stop stand) in
      all_room protocol request edns small ((wide catalog.nsid request.message.edns).1 protocol) replies (fit catalog request now replies zones answered)
