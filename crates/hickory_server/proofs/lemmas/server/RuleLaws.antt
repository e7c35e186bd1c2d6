-- What holds of whatever becomes of a message by the rules of a server.
use Rattle.std.proofs.Common.{◌≡◌, ◌≤◌, ◌⊎◌, inl, inr, ℕ, List, [], ◌∷◌, length, max, Contains, Option, Some, None, Ok, false, refl, sym, ap, subst, ◌∙◌, arith}
use Rattle.std.specs.Prelude.{◌==◌}
use Rattle.std.specs.List.{AllByRecursion, AllZip}
use Rattle.wire_names.specs.rr.domain.DomainName.{DomainName}
use Rattle.wire_names.specs.rr.domain.NameOrder.{lower_name}
use Rattle.wire_names.specs.declared.error.DecodeError.{DecodeError}
use Rattle.wire_messages.specs.op.EdnsFields.{EdnsFields}
use Rattle.wire_messages.specs.serialize.writing.Reply.{Reply}
use Rattle.wire_messages.specs.Numbers.{code_form_err, opcode_query, opcode_update}
use Rattle.wire_messages.specs.declared.op.header.Header.{Header}
use Rattle.wire_messages.specs.declared.op.query.Query.{Query}
use Rattle.wire_messages.specs.declared.protocol.Protocol.TheVariants.{Udp}
use Rattle.wire_reading.specs.serialize.reading.MessageReading.{Fault, Reads}
use Rattle.wire_reading.specs.declared.op.message.Message.{Message}
use Rattle.wire_writing.specs.serialize.writing.Writing.{Encoded}
use Rattle.hickory_base.specs.requests.Questions.{payload_limit}
use Rattle.hickory_base.specs.requests.Questions.{one_query}
use Rattle.hickory_base.specs.requests.RequestReading.{message_of}
use Rattle.hickory_base.specs.requests.Requests.{ReceivedRequest}
use Rattle.hickory_base.specs.declared.requests.message_request.MessageRequest.{MessageRequest}
use Rattle.hickory_base.specs.responses.Responses.{error_metadata}
use Rattle.hickory_base.specs.declared.zone_store.handler.ZoneHandler.{Ghosts}
use Rattle.hickory_catalog.specs.queries.Queries.{ChainReplies}
use Rattle.hickory_catalog.specs.requests.Alone.{ApexesStay, ChainServedAlone, OfZoneIsDecided, OneChain, OthersStay, ServedAlone}
use Rattle.hickory_catalog.specs.requests.Requests.{asks}
use Rattle.hickory_catalog.specs.zones.Find.{IsNearest, MayAnswer, OneNearest}
use Rattle.hickory_catalog.specs.replies.ReplyEdns.{reply_edns}
use Rattle.hickory_catalog.specs.requests.Server.{Server, server_of}
use Rattle.hickory_catalog.specs.replies.Signing.{Signer}
use Rattle.hickory_catalog.specs.transfers.WholeTransfers.{TransferredAlone}
use Rattle.hickory_catalog.specs.declared.catalog.Catalog.{Catalog}
use Rattle.hickory_server.specs.server.Above.{AsksForDs, IsAskedAbove}
use Rattle.hickory_server.specs.server.Above.{above as name_above}
use Rattle.hickory_server.specs.server.Fitted.{IsFitted, front_of}
use Rattle.hickory_server.specs.server.Fitted as over_udp
use Rattle.hickory_server.specs.server.Ruling.{IsQuery, IsRuling, datagram_limit, refusal, truncation, udp_limit}
use Rattle.hickory_server.specs.server.Sending.{IsSentAs, sending_of}
use Rattle.hickory_server.specs.server.ServedBy.{RequestServed, ServedBy, ZonesAnswer, refused, truncated, transferred, passed, short, response, request}
use Rattle.hickory_server.specs.server.ServedBy as by_rules
use Rattle.hickory_server.specs.server.ServedLaws.{HasNoReply, IsFor, IsMessageFor, LetThroughStep, LetThroughSteps, NoReplyToResponses, OtherZonesStay, ServedAloneBy, WithinBothLimits}
use Rattle.hickory_server.specs.server.ServedLaws as for_laws
use Rattle.hickory_server.specs.server.Serving.{IsRequestOf}
use Rattle.hickory_server.specs.server.Written.{bare_message}
use Rattle.hickory_server.specs.declared.server.answer.Answer.{Answer}
use Rattle.hickory_server.specs.declared.server.answer.Answer.TheVariants as answers
use Rattle.hickory_server.specs.declared.server.rules.Rules.{Rules}
use Rattle.hickory_server.specs.declared.server.rules.Ruling.TheVariants.{Pass, Refuse, Transfer, Truncate}
use Rattle.hickory_server.specs.declared.server.serve.Incoming.{Incoming}
use Rattle.hickory_server.proofs.lemmas.server.Above.{above_as, alone_none, may_too, one_name, one_question}
use Rattle.hickory_server.proofs.lemmas.server.Refusals.{looked_into, one_is}

-- what passes is neither refused nor truncated
not_refused : (rules : Rules) (r : ReceivedRequest) → IsRuling rules r Pass → IsRuling rules r Refuse → ⊥
not_refused rules r passes (query, inl (is, inl other)) = other (passes.0 query is).0
not_refused rules r passes (query, inl (is, inr (transfer, may_not))) = may_not ((passes.0 query is).2 transfer).0
not_refused rules r passes (zone, inr refused_update) = passes.1 zone refused_update

not_truncated : (rules : Rules) (r : ReceivedRequest) → IsRuling rules r Pass → IsRuling rules r Truncate → ⊥
not_truncated rules r passes (query, is, class, transfer, whole, may, udp) = ((passes.0 query is).2 transfer).1 udp

not_transferred : (rules : Rules) (r : ReceivedRequest) → IsRuling rules r Pass → IsRuling rules r Transfer → ⊥
not_transferred rules r passes (query, is, class, incremental, may) = (passes.0 query is).1 incremental

-- what is transferred asks for no DS records
not_for_ds : (rules : Rules) (r : ReceivedRequest) (name : DomainName) → IsRuling rules r Transfer → AsksForDs r.message name → ⊥
not_for_ds rules r name (query, is, class, incremental, may) for_ds =
    let one = one_question r.message query for_ds.query is for_ds.is_query in
    let ds = for_ds.is_ds in
    let type : query.query_type ≡ 43 = ap (λ (q : Query). q.query_type) one ∙ ds in
    omega (arith, type, incremental)

-- a query is no update
is_no_update : (message : MessageRequest) (query : Query) → IsQuery message query → (message.metadata.op_code == opcode_update) ≡ false
is_no_update message query is = rw is.op_code refl

-- any client takes a header
payload_least : (edns : Option EdnsFields) → 12 ≤ payload_limit edns
payload_least None = omega arith
payload_least (Some edns) = omega arith

-- the zone that a request is for is there
is_among : {V : Type 0} {zones : List (DomainName × V)} {r : ReceivedRequest} {zone_is : DomainName × V} → IsFor zones r zone_is → Contains zones zone_is
is_among (for_laws.above asked) = asked.nearest.among
is_among (for_laws.own _ of_zone) = of_zone.nearest.among

module _ {S H : Type 0} (handler : Ghosts H) (signature_for : S → Signer) where
  pub steps : LetThroughSteps handler signature_for
  steps rules catalog message answer zones through (by_rules.denied refuses is kept) = for_laws.denied refuses is kept
  steps rules catalog message answer zones through (short _ less _ _) = absurd (omega (arith, less, through.whole))
  steps rules catalog message answer zones through (response _ _ qr _ _) = absurd (through.no_response qr)
  steps rules catalog message answer zones through (by_rules.unreadable allowed _ _ fault is kept) = for_laws.unreadable allowed is kept
  steps rules catalog message answer zones through (request {request = r} {sent = sent} allowed _ _ is served answer_is) = by served where
    passes : IsRuling rules r Pass
    passes = through.passes r is

    by : RequestServed rules (server_of handler signature_for catalog) r message.now sent zones → LetThroughStep rules (server_of handler signature_for catalog) message answer zones
    by (refused ruling _ _ _) = absurd (not_refused rules r passes ruling)
    by (truncated ruling _ _ _) = absurd (not_truncated rules r passes ruling)
    by (transferred ruling _ _ _) = absurd (not_transferred rules r passes ruling)
    by (passed _ (by_rules.above asked _ _) _) = absurd (through.not_above r is _ asked)
    by (passed _ (by_rules.own _ answered) are) = for_laws.handled allowed is answered are answer_is

  no_reply : (answer : Answer) → answer ≡ answers.Response ⊎ (answer ≡ answers.Unreadable) ⊎ (answer ≡ answers.Denied) → HasNoReply answer
  no_reply answers.Denied is = tt
  no_reply answers.Response is = tt
  no_reply answers.Unreadable is = tt
  no_reply (answers.Replies sent) (inl is) = absurd cc
  no_reply (answers.Replies sent) (inr (inl is)) = absurd cc
  no_reply (answers.Replies sent) (inr (inr is)) = absurd cc

  pub no_replies : NoReplyToResponses handler signature_for
  no_replies rules catalog message answer zones which (by_rules.denied _ is kept) = (no_reply answer (inr (inr is)), kept)
  no_replies rules catalog message answer zones which (short _ _ is kept) = (no_reply answer (inr (inl is)), kept)
  no_replies rules catalog message answer zones which (response _ _ _ is kept) = (no_reply answer (inl is), kept)
  no_replies rules catalog message answer zones (inl qr) (by_rules.unreadable _ _ no_response _ _ _) = absurd (no_response qr)
  no_replies rules catalog message answer zones (inr less) (by_rules.unreadable _ whole _ _ _ _) = absurd (omega (arith, less, whole))
  no_replies rules catalog message answer zones (inl qr) (request _ _ no_response _ _ _) = absurd (no_response qr)
  no_replies rules catalog message answer zones (inr less) (request _ whole _ _ _ _) = absurd (omega (arith, less, whole))

  -- ---- limits

  module _ (limited : (limit : ℕ) (reply : Reply) (bytes : List ℕ) (header : Header) → Encoded limit reply bytes header → length bytes ≤ max limit 12) where
    -- what is sent of a reply is within the limit
    fitted : (limit : ℕ) (reply : Reply) (bytes : List ℕ) → IsFitted limit reply bytes → length bytes ≤ max limit 12
    fitted limit reply bytes (over_udp.whole (header, made, _)) = limited limit reply bytes header made.encoded
    fitted limit reply bytes (over_udp.front _ _ longest) = let (header, made, _) = longest.is_front.1 in limited limit (front_of reply longest.count) bytes header made.encoded
    fitted limit reply bytes (over_udp.tc _ _ (header, made)) = limited limit (over_udp.truncated reply) bytes header made.encoded

    abbrev AreBoth : Rules → ReceivedRequest → List (List ℕ) → Type 0
    AreBoth rules r = AllByRecursion (λ (bytes : List ℕ). (length bytes ≤ udp_limit rules) × (length bytes ≤ payload_limit r.message.edns))

    all_fitted : (rules : Rules) (r : ReceivedRequest) (replies : List Reply) (sent : List (List ℕ)) → AllZip (IsFitted (datagram_limit rules r)) replies sent → AreBoth rules r sent
    all_fitted rules r [] [] are = tt
    all_fitted rules r [] (bytes ∷ others) are = absurd are
    all_fitted rules r (reply ∷ replies) [] are = absurd are
    all_fitted rules r (reply ∷ replies) (bytes ∷ others) are =
        let small = fitted (datagram_limit rules r) reply bytes are.0 in
        let takes = payload_least r.message.edns in
        ((omega (arith, small, takes), omega (arith, small, takes)), all_fitted rules r replies others are.1)

    one_fitted : (rules : Rules) (r : ReceivedRequest) (reply : Reply) (bytes : List ℕ) (sent : List (List ℕ)) → r.protocol ≡ Udp → sent ≡ bytes ∷ []
        → IsSentAs (sending_of rules r) reply bytes → AreBoth rules r sent
    one_fitted rules r reply bytes sent over one is = rw one (all_fitted rules r (reply ∷ []) (bytes ∷ []) (rw over at is, tt))

    are_both : {V : Type 0} (rules : Rules) (server : Server V) (r : ReceivedRequest) (now : ℕ) (sent : List (List ℕ)) (zones : List (DomainName × List V)) → r.protocol ≡ Udp
        → RequestServed rules server r now sent zones → AreBoth rules r sent
    are_both rules server r now sent zones over (refused _ is one _) = one_fitted rules r (refusal server r) _ sent over one is
    are_both rules server r now sent zones over (truncated _ is one _) = one_fitted rules r (truncation r) _ sent over one is
    are_both rules server r now sent zones over (transferred {replies = replies} _ _ are _) = all_fitted rules r replies sent (rw over at are)
    are_both rules server r now sent zones over (passed {replies = replies} _ _ are) = all_fitted rules r replies sent (rw over at are)

    pub within : WithinBothLimits handler signature_for
    within rules catalog message sent zones (by_rules.denied _ is _) udp = absurd cc
    within rules catalog message sent zones (short _ _ is _) udp = absurd cc
    within rules catalog message sent zones (response _ _ _ is _) udp = absurd cc
    within rules catalog message sent zones (by_rules.unreadable _ _ _ _ is _) udp =
        let (header, at, reply, made, one) = is in
        let small = limited 512 (bare_message (error_metadata header.metadata code_form_err) [] 0 None) reply made.0 made.1.encoded in
        let same : sent ≡ reply ∷ [] = cc in
        let few : length reply ≤ 512 = omega (arith, small) in inr (is, rw same (few, tt))
    within rules catalog message sent zones (request {request = r} {sent = made} _ _ _ is served answer_is) udp =
        let same : made ≡ sent = cc in
        let over : r.protocol ≡ Udp = is.protocol_is ∙ udp in
        inl (r, is, subst (AreBoth rules r) same (are_both rules (server_of handler signature_for catalog) r message.now made zones over served))

  -- ---- isolation

  module _ (same : (bytes : List ℕ) (m n : Message) → Reads bytes m → Reads bytes n → m ≡ n) (no_fault : (bytes : List ℕ) (m : Message) (e : DecodeError) → Reads bytes m → Fault bytes e → ⊥)
      (served : ServedAlone handler signature_for) (others : OthersStay handler signature_for) (apexes : ApexesStay handler signature_for) (one_chain : OneChain H) (decided : OfZoneIsDecided H) (transfers : TransferredAlone handler signature_for)
      (chains : ChainServedAlone handler signature_for) (nearest : OneNearest (List H)) where
    -- a message is read as requests of the same question
    messages_are : (message : Incoming) (r s : ReceivedRequest) → IsRequestOf message r → IsRequestOf message s → message_of s.message ≡ message_of r.message
    messages_are message r s is other = same message.bytes.items (message_of s.message) (message_of r.message) other.reads is.reads

    -- a request of the message is for the zone too
    for_zone_too : (zones : List (DomainName × List H)) (rules : Rules) (message : Incoming) (r : ReceivedRequest) (zone_is : DomainName × List H) → IsRequestOf message r → IsMessageFor rules zones zone_is message → IsFor zones r zone_is
    for_zone_too zones rules message r zone_is is to = by to.is_for where
      here : message_of to.request.message ≡ message_of r.message
      here = messages_are message r to.request is to.is_request

      by : IsFor zones to.request zone_is → IsFor zones r zone_is
      by (for_laws.above asked) = for_laws.above (above_as to.request.message r.message here zones zone_is asked)
      by (for_laws.own none of) = for_laws.own (λ z asked. none z (above_as r.message to.request.message (sym here) zones z asked)) (record { query = of.query; asks = subst (λ (qs : List Query). one_query qs ≡ Ok of.query) (ap (λ (m : Message). m.queries) here) of.asks; nearest = of.nearest })

    -- what the zone above replies, it replies where it is alone
    above_alone : (catalog : Catalog S H) (r : ReceivedRequest) (now : ℕ) (replies : List Reply) (zone_is : DomainName × List H) → IsAskedAbove catalog.zones r.message zone_is
        → ChainReplies (server_of handler signature_for catalog) zone_is.1 r (reply_edns catalog.nsid r.message.edns) now replies
        → ZonesAnswer (record (server_of handler signature_for catalog) { zones = zone_is ∷ [] }) r now replies (zone_is ∷ [])
    above_alone catalog r now replies zone_is asked replied =
        let query = asked.asks.query in
        let is_query = asked.asks.is_query in
        let may : MayAnswer zone_is.0 (lower_name query.name) = subst (λ (n : DomainName). MayAnswer zone_is.0 n) asked.asks.name_is (may_too zone_is.0 asked.name asked.asks.qualified asked.asks.below_root asked.nearest.may_answer) in
        by_rules.own (alone_none r.message zone_is)
        (asks (looked_into r.message query is_query) (is_no_update r.message query is_query) (record {
          are_replies = chains catalog r query (reply_edns catalog.nsid r.message.edns) now replies zone_is (one_is r.message opcode_query query is_query) may replied;
          kept = refl;
        }))

    pub alone : ServedAloneBy handler signature_for
    alone rules catalog message answer after apex chain sorted to (by_rules.denied refuses _ _) = absurd (refuses to.allowed)
    alone rules catalog message answer after apex chain sorted to (short allowed less is kept) =
        (chain, short allowed less is refl, subst (λ (zs : List (DomainName × List H)). Contains zs (apex, chain)) (sym kept) (is_among to.is_for))
    alone rules catalog message answer after apex chain sorted to (response allowed whole qr is kept) =
        (chain, response allowed whole qr is refl, subst (λ (zs : List (DomainName × List H)). Contains zs (apex, chain)) (sym kept) (is_among to.is_for))
    alone rules catalog message answer after apex chain sorted to (by_rules.unreadable allowed whole no_response fault is kept) =
        (chain, by_rules.unreadable allowed whole no_response fault is refl, subst (λ (zs : List (DomainName × List H)). Contains zs (apex, chain)) (sym kept) (is_among to.is_for))
    alone rules catalog message answer after apex chain sorted to (request {request = r} {sent = sent} allowed whole no_response is served_so answer_is) = by served_so (for_zone_too catalog.zones rules message r (apex, chain) is to) where
      kept_in : after ≡ catalog.zones → Contains after (apex, chain)
      kept_in kept = subst (λ (zs : List (DomainName × List H)). Contains zs (apex, chain)) (sym kept) (is_among to.is_for)

      by : RequestServed rules (server_of handler signature_for catalog) r message.now sent after → IsFor catalog.zones r (apex, chain)
          → (chain' : List H) × ServedBy rules (record (server_of handler signature_for catalog) { zones = (apex, chain) ∷ [] }) message answer ((apex, chain') ∷ []) × Contains after (apex, chain')
      by (refused ruling made one kept) _ = (chain, request allowed whole no_response is (refused ruling made one refl) answer_is, kept_in kept)
      by (truncated ruling made one kept) _ = (chain, request allowed whole no_response is (truncated ruling made one refl) answer_is, kept_in kept)
      by (transferred ruling replied made kept) (for_laws.above asked) = absurd (not_for_ds rules r asked.name ruling asked.asks)
      by (transferred {replies = replies} ruling replied made kept) (for_laws.own _ of_zone) =
          let there = transfers catalog r (reply_edns catalog.nsid r.message.edns) message.now replies (apex, chain) sorted of_zone replied in
          (chain, request allowed whole no_response is (transferred ruling there made refl) answer_is, kept_in kept)
      by (passed ruling (by_rules.above {zone = zone_is} asked replied kept) made) (for_laws.own none _) = absurd (none zone_is asked)
      by (passed {replies = replies} ruling (by_rules.above {zone = zone_is} asked replied kept) made) (for_laws.above here) =
          let names = one_name r.message asked.name here.name asked.asks here.asks in
          let there : IsNearest catalog.zones (name_above here.name) zone_is = subst (λ (n : DomainName). IsNearest catalog.zones (name_above n) zone_is) names asked.nearest in
          let one : zone_is ≡ (apex, chain) = nearest catalog.zones (name_above here.name) zone_is (apex, chain) sorted there here.nearest in
          let said = subst (λ (z : DomainName × List H). ChainReplies (server_of handler signature_for catalog) z.1 r (reply_edns catalog.nsid r.message.edns) message.now replies) one replied in
          (chain, request allowed whole no_response is (passed ruling (above_alone catalog r message.now replies (apex, chain) here said) made) answer_is, kept_in kept)
      by (passed ruling (by_rules.own none answered) made) (for_laws.above here) = absurd (none (apex, chain) here)
      by (passed {replies = replies} ruling (by_rules.own none answered) made) (for_laws.own _ of_zone) =
          let there = served catalog r message.now replies after (apex, chain) sorted of_zone answered in
          (there.0, request allowed whole no_response is (passed ruling (by_rules.own (alone_none r.message (apex, chain)) there.1) made) answer_is, there.2)

    pub stay : OtherZonesStay handler signature_for
    stay rules catalog message answer after apex chain among other (by_rules.denied _ _ kept) = subst (λ (zs : List (DomainName × List H)). Contains zs (apex, chain)) (sym kept) among
    stay rules catalog message answer after apex chain among other (short _ _ _ kept) = subst (λ (zs : List (DomainName × List H)). Contains zs (apex, chain)) (sym kept) among
    stay rules catalog message answer after apex chain among other (response _ _ _ _ kept) = subst (λ (zs : List (DomainName × List H)). Contains zs (apex, chain)) (sym kept) among
    stay rules catalog message answer after apex chain among other (by_rules.unreadable _ _ _ _ _ kept) = subst (λ (zs : List (DomainName × List H)). Contains zs (apex, chain)) (sym kept) among
    stay rules catalog message answer after apex chain among other (request {request = r} {sent = sent} allowed _ _ is served_so _) = by served_so where
      by : RequestServed rules (server_of handler signature_for catalog) r message.now sent after → Contains after (apex, chain)
      by (refused _ _ _ kept) = subst (λ (zs : List (DomainName × List H)). Contains zs (apex, chain)) (sym kept) among
      by (truncated _ _ _ kept) = subst (λ (zs : List (DomainName × List H)). Contains zs (apex, chain)) (sym kept) among
      by (transferred _ _ _ kept) = subst (λ (zs : List (DomainName × List H)). Contains zs (apex, chain)) (sym kept) among
      by (passed _ (by_rules.above _ _ kept) _) = subst (λ (zs : List (DomainName × List H)). Contains zs (apex, chain)) (sym kept) among
      by (passed {replies = replies} _ (by_rules.own none answered) _) =
          others catalog r message.now replies after (apex, chain) among (λ of_zone. other (record { allowed = allowed; request = r; is_request = is; is_for = for_laws.own none of_zone })) answered
