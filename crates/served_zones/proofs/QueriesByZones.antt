-- What a server replies to a query from its zones.
use Rattle.std.proofs.Common.{◌≡◌, ◌⊎◌, ◌∙◌, inl, inr, ℕ, false, List, [], ◌∷◌, Option, Some, None, Result, Ok, Err, refl, sym, ap, subst, arith}
use Rattle.std.specs.Prelude.{◌==◌, All, Contains}
use Rattle.std.specs.Global.{Global}
use Rattle.std.specs.List.{AllByRecursion}
use Rattle.std.specs.declared.rc.Rc.{Rc}
use Rattle.std.proofs.lemmas.Bool.{false≢true, ne_eqb}
use Rattle.std.proofs.lemmas.List.Elements.{All-contains, All-weaker, recursion_from_All}
use Rattle.either.specs.declared.Either.TheVariants.{Left, Right}
use Rattle.wire_names.specs.rr.domain.DomainName.{DomainName}
use Rattle.wire_names.specs.rr.domain.NameOrder.{lower_name}
use Rattle.wire_messages.specs.Numbers.{code_serv_fail, opcode_query, opcode_update, type_axfr}
use Rattle.wire_messages.specs.op.EdnsFields.{EdnsFields}
use Rattle.wire_messages.specs.serialize.writing.Reply.{Reply}
use Rattle.wire_messages.specs.declared.op.query.Query.{Query}
use Rattle.wire_messages.specs.declared.protocol.Protocol.TheVariants as protocols
use Rattle.wire_names.specs.declared.error.DecodeError.{DecodeError}
use Rattle.wire_reading.specs.serialize.reading.MessageReading.{Fault, Reads}
use Rattle.wire_reading.specs.declared.op.message.Message.{Message}
use Rattle.hickory_base.specs.requests.Questions.{one_query}
use Rattle.hickory_base.specs.requests.RequestReading.{message_of}
use Rattle.hickory_base.specs.requests.Requests.{ReceivedRequest, RequestInformation, information}
use Rattle.hickory_base.specs.zone_store.Lookups.{Flow, SignerContext}
use Rattle.hickory_base.specs.zone_store.ZoneAnswers.{MemoryZone}
use Rattle.hickory_base.specs.declared.errors.LookupError.{LookupError}
use Rattle.hickory_base.specs.declared.errors.LookupError.TheVariants.{Memory}
use Rattle.hickory_base.specs.declared.requests.message_request.MessageRequest.{MessageRequest}
use Rattle.hickory_base.specs.declared.zone_store.handler.ZoneHandler.{Ghosts}
use Rattle.hickory_base.specs.declared.zone_store.lookup.LookupControlFlow.TheVariants.{Continue}
use Rattle.hickory_base.specs.declared.zone_store.lookup.LookupOptions.{LookupOptions}
use Rattle.hickory_catalog.specs.queries.Queries.{HandlerReply, ZoneReply, consult_options, is_out_of_memory}
use Rattle.hickory_catalog.specs.replies.Replies.{Contents, error_contents, unsigned_reply}
use Rattle.hickory_catalog.specs.replies.ReplyEdns.{reply_edns}
use Rattle.hickory_catalog.specs.replies.Signing.{Signer}
use Rattle.hickory_catalog.specs.requests.Requests.{RequestAnswered}
use Rattle.hickory_catalog.specs.requests.Requests as requests
use Rattle.hickory_catalog.specs.requests.Server.{Server, server_of}
use Rattle.hickory_catalog.specs.zones.Zones.{ZoneChains}
use Rattle.hickory_catalog.specs.declared.catalog.Catalog.{Catalog}
use Rattle.hickory_server.proofs.lemmas.server.Above.{one_question}
use Rattle.hickory_server.proofs.lemmas.server.Refusals.{looked_into, one_is, one_sent}
use Rattle.hickory_server.proofs.lemmas.zone_handler.MadeReplies.{made}
use Rattle.hickory_server.specs.server.Ruling.{IsIncremental, IsOfServedClass, IsQuery, IsRefusedUpdate, IsRuling, IsTransfer, MayTransfer}
use Rattle.hickory_server.specs.server.Above.{FindsAbove}
use Rattle.hickory_server.specs.server.Sending.{IsSentAs, sending_of}
use Rattle.hickory_server.specs.server.ServedBy.{RequestServed, ZonesAnswer}
use Rattle.hickory_server.specs.server.ServedBy as by_rules
use Rattle.hickory_server.specs.server.ServedLaws.{IsFor}
use Rattle.hickory_server.specs.server.ServedLaws as for_laws
use Rattle.hickory_server.specs.server.Serving.{IsRequestOf}
use Rattle.hickory_server.specs.declared.server.answer.Answer.{Answer}
use Rattle.hickory_server.specs.declared.server.answer.Answer.TheVariants.{Replies}
use Rattle.hickory_server.specs.declared.server.rules.Rules.{Rules}
use Rattle.hickory_server.specs.declared.server.rules.Ruling.TheVariants.{Pass, Refuse, Transfer, Truncate}
use Rattle.hickory_server.specs.declared.server.serve.Incoming.{Incoming}
use Rattle.hickory_store.specs.blocklist.BlockAnswers.{Blocklist, ConsultedBy, IsBlockedBy}
use Rattle.hickory_store.specs.declared.blocklist.config.BlocklistConsultAction.{BlocklistConsultAction}
use Rattle.hickory_store.specs.declared.blocklist.config.BlocklistConsultAction.TheVariants.{Disabled, Enforce, Log}
use Rattle.served_zones.proofs.LoneHandlers.{Found, IsSaid, Leaves, WantsMemory, by_nearest, by_nobody, chain_replied, query_replied, replied_by_first, replied_by_none}
use Rattle.served_zones.specs.ServedQueries.{AreServedChains, IsListThat, IsPlainQuery, IsSaidBy, IsSaidByZone, IsServedChain, LetsPass, QueriesAreAnswered, by_empty, by_failure, by_none, by_reply, by_zone}
use Rattle.served_zones.specs.ServedZones.{ServedHandler}
use Rattle.tsig.specs.declared.verifier.TsigVerifier.{TsigVerifier}
use Rattle.zones.specs.Laws.{OwnedZonesAreLookedUp}
use Rattle.zones.specs.ZoneQueries.{IsAnswered, LookedUp, Searched, SearchedFor, failed, replied}
use Rattle.zones.specs.ZoneStates.{ZoneState}

-- ---- what the rules make of the query

query_as : (m n : MessageRequest) (query : Query) → message_of m ≡ message_of n → IsQuery m query → IsQuery n query
query_as m n query same is = record {
  version = rw (← ap (λ (x : Message). x.edns) same) is.version;
  asks = rw (← ap (λ (x : Message). x.metadata) same) is.asks;
  op_code = rw (← ap (λ (x : Message). x.metadata) same) is.op_code;
  question = rw (← ap (λ (x : Message). x.queries) same) is.question;
}

no_update : (m : MessageRequest) (query zone : Query) → IsQuery m query → IsRefusedUpdate m zone → ⊥
no_update m query zone is update =
    let no : opcode_query ≡ opcode_update = sym is.op_code ∙ update.0.0.op_code in omega (arith, no)

module _ (same : (bytes : List ℕ) (m n : Message) → Reads bytes m → Reads bytes n → m ≡ n) (rules : Rules) (message : Incoming) (question : Query) (plain : IsPlainQuery rules message question) where
  -- however the message is read, it is this query
  read_so : (r : ReceivedRequest) → IsRequestOf message r → IsQuery r.message question
  read_so r is =
      query_as plain.request.message r.message question
      (same message.bytes.items (message_of plain.request.message) (message_of r.message) plain.is_request.reads is.reads) plain.is_query

  passes : (r : ReceivedRequest) → IsRequestOf message r → IsRuling rules r Pass
  passes r is = (λ query asks. of_query query (one_question r.message query question asks (read_so r is)), λ zone update. no_update r.message question zone (read_so r is) update) where
    of_query : (query : Query) → query ≡ question → IsOfServedClass query × ¬ (IsIncremental query) × (IsTransfer query → MayTransfer rules r × ¬ (r.protocol ≡ protocols.Udp))
    of_query query one =
        subst (λ (q : Query). IsOfServedClass q × ¬ (IsIncremental q) × (IsTransfer q → MayTransfer rules r × ¬ (r.protocol ≡ protocols.Udp))) (sym one)
        (plain.class, λ incremental. plain.no_transfer (inr incremental), λ transfer. absurd (plain.no_transfer transfer))

not_refused : (rules : Rules) (r : ReceivedRequest) → IsRuling rules r Pass → IsRuling rules r Refuse → ⊥
not_refused rules r pass (query, inl (is, inl other)) = other (pass.0 query is).0
not_refused rules r pass (query, inl (is, inr (transfer, may_not))) = may_not ((pass.0 query is).2 transfer).0
not_refused rules r pass (zone, inr update) = pass.1 zone update

not_truncated : (rules : Rules) (r : ReceivedRequest) → IsRuling rules r Pass → IsRuling rules r Truncate → ⊥
not_truncated rules r pass (query, is, class, transfer, whole, may, udp) = ((pass.0 query is).2 transfer).1 udp

not_transferred : (rules : Rules) (r : ReceivedRequest) → IsRuling rules r Pass → IsRuling rules r Transfer → ⊥
not_transferred rules r pass (query, is, class, incremental, may) = (pass.0 query is).1 incremental

-- ---- the zones

-- What a chain says to a question: what its zone says, or SERVFAIL if it is empty.
pub data Says (r : ReceivedRequest) (question : Query) (served : DomainName × List ServedHandler) (contents : Contents) : Type 0 where
  of_zone : {zone : ZoneState TsigVerifier} {lists : List ServedHandler} → served.1 ≡ Left zone ∷ lists → IsSaidByZone zone.updatable.zone r question contents → Says r question served contents
  of_empty : served.1 ≡ [] → contents ≡ error_contents r.message.metadata code_serv_fail → Says r question served contents

said_for : (zones : List (DomainName × List ServedHandler)) (r : ReceivedRequest) (question : Query) (contents : Contents) (served : DomainName × List ServedHandler) → IsFor zones r served → Says r question served contents
    → IsSaidBy zones r question contents
said_for zones r question contents served for_it (of_zone chain says) = by_zone (subst (λ (hs : List ServedHandler). IsFor zones r (served.0, hs)) chain for_it) says
said_for zones r question contents served for_it (of_empty chain is) = by_empty (subst (λ (hs : List ServedHandler). IsFor zones r (served.0, hs)) chain for_it) is

module _ (handler : Ghosts ServedHandler)
    (searches : (zone : ZoneState TsigVerifier) (r : ReceivedRequest) (options : LookupOptions) (flow : Flow) (context : SignerContext) → handler.search_gives (Left zone) r options flow context → Searched zone.updatable.zone r flow × (context ≡ None))
    (type : (zone : ZoneState TsigVerifier) → handler.zone_type_of (Left zone) ≡ zone.updatable.zone.zone_type)
    (no_proofs : (zone : ZoneState TsigVerifier) → handler.nx_proof_kind_of (Left zone) ≡ None)
    (looks : (zone : ZoneState TsigVerifier) (options : LookupOptions) (flow : Flow) → handler.lookup_gives (Left zone) (handler.origin_of (Left zone)) 6 None options flow → LookedUp zone.updatable.zone zone.updatable.zone.origin 6 flow)
    (owned : OwnedZonesAreLookedUp)
    (consults : (list : Rc Blocklist Global) (name : DomainName) (t : ℕ) (info : Option RequestInformation) (options : LookupOptions) (last answer : Flow) (context : SignerContext)
    → handler.consult_gives (Right list) name t info options last answer context → ConsultedBy list.value.config.consult_action list.value name t last answer × (context ≡ None)) where
  -- a list that does not block a name leaves what is answered for it
  left_free : (action : BlocklistConsultAction) (list : Blocklist) (name : DomainName) (t : ℕ) (last answer : Flow) → ¬ (IsBlockedBy list name) → ConsultedBy action list name t last answer → (answer ≡ last) ⊎ WantsMemory answer
  left_free Enforce list name t last answer free (inl (blocked, is)) = absurd (free blocked)
  left_free Enforce list name t last answer free (inr (inl (not, same))) = inl same
  left_free Enforce list name t last answer free (inr (inr memory)) = inr memory
  left_free Disabled list name t last answer free same = inl same
  left_free Log list name t last answer free same = inl same

  leaves_it : (r : ReceivedRequest) (question : Query) (options : LookupOptions) (h : ServedHandler) → IsListThat (LetsPass question) h → Leaves handler (information r question) options h
  leaves_it r question options (Left zone) is = absurd is
  leaves_it r question options (Right list) free = λ last answer fresh gave.
      let c = consults list (lower_name question.name) question.query_type (Some (information r question)) options last answer fresh gave in
      (left_free list.value.config.consult_action list.value (lower_name question.name) question.query_type last answer free c.0, c.1)

  all_leave : (r : ReceivedRequest) (question : Query) (options : LookupOptions) (lists : List ServedHandler) → All (IsListThat (LetsPass question)) lists → AllByRecursion (Leaves handler (information r question) options) lists
  all_leave r question options lists free =
      recursion_from_All (Leaves handler (information r question) options) lists
      (All-weaker (IsListThat (LetsPass question)) (Leaves handler (information r question) options) (leaves_it r question options) lists free)

  -- what the zone gives for the question, and what the catalog makes of it
  abbrev Stands : MemoryZone → Query → Found → Type 0
  Stands zone question result = IsAnswered zone question result ⊎ (result ≡ Err Memory)

  gives : (zone : ZoneState TsigVerifier) (r : ReceivedRequest) (question : Query) → one_query r.message.queries.queries ≡ Ok question → (options : LookupOptions) (flow : Flow) (context : SignerContext)
      → handler.search_gives (Left zone) r options flow context → (result : Found) × Stands zone.updatable.zone question result × (flow ≡ Continue result) × (context ≡ None)
  gives zone r question one options flow context gave =
      let s = searches zone r options flow context gave in
      let found : SearchedFor zone.updatable.zone (Ok question) flow = subst (λ (q : Result Query LookupError). SearchedFor zone.updatable.zone q flow) one s.0 in
      (found.0, found.1, found.2, s.1)

  said : (zone : ZoneState TsigVerifier) (r : ReceivedRequest) (question : Query) (result : Found) (contents : Contents) → Stands zone.updatable.zone question result → is_out_of_memory result ≡ false
      → HandlerReply handler (Left zone) (handler.zone_type_of (Left zone)) (record { request = r; query = question }) result contents → IsSaidByZone zone.updatable.zone r question contents
  said zone r question result contents (inl (replied owners stands)) in_memory reply =
      by_reply owners
      (made handler (Left zone) zone.updatable.zone (no_proofs zone) (λ options flow looked. owned zone.updatable.zone zone.updatable.zone.origin 6 flow owners (looks zone options flow looked)) r question contents result stands
      (subst (λ t. HandlerReply handler (Left zone) t (record { request = r; query = question }) result contents) (type zone) reply))
  said zone r question result contents (inl (failed sets not is)) in_memory reply =
      by_failure sets not (subst (λ (found : Found). HandlerReply handler (Left zone) (handler.zone_type_of (Left zone)) (record { request = r; query = question }) found contents) is reply).0
  said zone r question result contents (inr none) in_memory reply = absurd (false≢true (sym in_memory ∙ ap is_out_of_memory none))

  module _ {S : Type 0} (signature_for : S → Signer) (same : (bytes : List ℕ) (m n : Message) → Reads bytes m → Reads bytes n → m ≡ n)
      (no_fault : (bytes : List ℕ) (m : Message) (e : DecodeError) → Reads bytes m → Fault bytes e → ⊥) where
    module _ (catalog : Catalog S ServedHandler) (r : ReceivedRequest) (question : Query) (are : AreServedChains (LetsPass question) catalog.zones) (is : IsQuery r.message question) (no_transfer : (question.query_type == type_axfr) ≡ false) (now : ℕ) where
      abbrev server : Server ServedHandler
      server = server_of handler signature_for catalog

      abbrev edns : Option EdnsFields
      edns = reply_edns catalog.nsid r.message.edns

      asks : one_query r.message.queries.queries ≡ Ok question
      asks = one_is r.message opcode_query question is

      by_handlers : (apex : DomainName) (chain : List ServedHandler) → IsServedChain (LetsPass question) chain → (reply : Reply) → ZoneReply server chain (record { request = r; query = question }) edns now reply
          → (contents : Contents) × Says r question (apex, chain) contents × (reply ≡ unsigned_reply r.message edns contents)
      by_handlers apex [] is_chain reply replies =
          (error_contents r.message.metadata code_serv_fail, of_empty refl refl, replied_by_none server r question edns now reply no_transfer replies)
      by_handlers apex (Left zone ∷ lists) free reply replies =
          let leave = all_leave r question (consult_options edns) lists free in
          let m = replied_by_first server (Left zone) lists r question (Stands zone.updatable.zone question) (IsSaidByZone zone.updatable.zone r question) (gives zone r question asks) (said zone r question) edns now reply no_transfer leave replies in
          (m.0, of_zone refl m.1, m.2)
      by_handlers apex (Right list ∷ others) is_chain reply replies = absurd is_chain

      by_chain : (served : DomainName × List ServedHandler) → Contains catalog.zones served → (reply : Reply) → ZoneReply server served.1 (record { request = r; query = question }) edns now reply
          → (contents : Contents) × Says r question served contents × (reply ≡ unsigned_reply r.message edns contents)
      by_chain served among reply replies =
          by_handlers served.0 served.1 (All-contains (λ (s : DomainName × List ServedHandler). IsServedChain (LetsPass question) s.1) catalog.zones served are among) reply replies

      abbrev One : List Reply → Type 0
      One replies = (contents : Contents) × IsSaidBy catalog.zones r question contents × (replies ≡ unsigned_reply r.message edns contents ∷ [])

      by_nearest_zone : FindsAbove catalog.zones r.message None → (contents : Contents) → IsSaid server r question (Says r question) contents → IsSaidBy catalog.zones r question contents
      by_nearest_zone not_above contents (by_nobody none is) = by_none not_above none is
      by_nearest_zone not_above contents (by_nearest zone nearest says) =
          said_for catalog.zones r question contents zone (for_laws.own not_above (record { query = question; asks = asks; nearest = nearest })) says

      answered : FindsAbove catalog.zones r.message None → (replies : List Reply) (after : ZoneChains ServedHandler) → RequestAnswered server r now replies after → One replies
      answered not_above replies after (requests.refused fault _ _) = let fine = looked_into r.message question is in absurd cc
      answered not_above replies after (requests.updates _ op _) = let code = is.op_code in absurd cc
      answered not_above replies after (requests.asks _ _ query) =
          let one = query_replied server r question edns now (Says r question) asks no_transfer by_chain replies query.are_replies in
          (one.0, by_nearest_zone not_above one.0 one.1, one.2)

      from_zones : (replies : List Reply) (after : ZoneChains ServedHandler) → ZonesAnswer server r now replies after → One replies
      from_zones replies after (by_rules.own not_above answers) = answered not_above replies after answers
      from_zones replies after (by_rules.above {zone = zone} asked answers _) =
          let s = chain_replied server r question edns now (Says r question) asks no_transfer by_chain zone asked.nearest.among replies answers in
          (s.0, said_for catalog.zones r question s.0 zone (for_laws.above asked) s.1, s.2)

      abbrev OneSent : Rules → List (List ℕ) → Type 0
      OneSent rules sent = (contents : Contents) × IsSaidBy catalog.zones r question contents × (bytes : List ℕ) × (sent ≡ bytes ∷ []) × IsSentAs (sending_of rules r) (unsigned_reply r.message edns contents) bytes

      by_request : (rules : Rules) → IsRuling rules r Pass → (sent : List (List ℕ)) (after : ZoneChains ServedHandler) → RequestServed rules server r now sent after → OneSent rules sent
      by_request rules pass sent after (by_rules.refused ruling _ _ _) = absurd (not_refused rules r pass ruling)
      by_request rules pass sent after (by_rules.truncated ruling _ _ _) = absurd (not_truncated rules r pass ruling)
      by_request rules pass sent after (by_rules.transferred ruling _ _ _) = absurd (not_transferred rules r pass ruling)
      by_request rules pass sent after (by_rules.passed {replies = replies} _ zones are_sent) =
          let a = from_zones replies after zones in
          let one = one_sent (sending_of rules r) replies (unsigned_reply r.message edns a.0) sent a.2 are_sent in
          (a.0, a.1, one.0, one.1, one.2)

    pub reply : QueriesAreAnswered handler signature_for
    reply rules catalog message question answer after are plain (by_rules.denied refuses _ _) = absurd (refuses plain.may_use)
    reply rules catalog message question answer after are plain (by_rules.short _ less _ _) = absurd (omega (arith, less, plain.whole))
    reply rules catalog message question answer after are plain (by_rules.response _ _ response _ _) = absurd (plain.no_response response)
    reply rules catalog message question answer after are plain (by_rules.unreadable _ _ _ fault _ _) =
        absurd (no_fault message.bytes.items (message_of plain.request.message) fault.fault plain.is_request.reads fault.first)
    reply rules catalog message question answer after are plain (by_rules.request {request = r} {sent = sent} _ _ _ is served told) =
        let a = by_request catalog r question are (read_so same rules message question plain r is) (ne_eqb question.query_type type_axfr (λ axfr. plain.no_transfer (inl axfr))) message.now
        rules (passes same rules message question plain r is) sent after served in
        let (contents, said_so, bytes, one, is_sent) = a in (
          r,
          is,
          contents,
          said_so,
          record {
            bytes = bytes;
            sent = is_sent;
            answer_is = told ∙ ap (λ (b : List (List ℕ)). let says_so : Answer = Replies b in says_so) one;
          },
        )
