-- Each reply to a query or an update is a reply to its request.
use Rattle.std.proofs.Common.{◌≡◌, ℕ, ◌<◌, ◌^◌, ◌||◌, nat_eq, Bool, true, false, cond, List, [], ◌∷◌, map, Option, Some, None, MatchOption, Result, Ok, Err, refl, sym, ap, subst, ◌∙◌, arith}
use Rattle.std.specs.Prelude.{◌==◌}
use Rattle.std.specs.List.{AllByRecursion}
use Rattle.std.proofs.lemmas.Bool.Decides.{nat_tests}
use Rattle.wire_messages.specs.op.EdnsFields.{EdnsFields}
use Rattle.wire_names.specs.rr.domain.DomainName.{DomainName}
use Rattle.wire_messages.specs.serialize.writing.Reply.{Reply}
use Rattle.wire_messages.specs.declared.op.header.Metadata.{Metadata}
use Rattle.wire_messages.specs.declared.op.query.Query.{Query}
use Rattle.wire_messages.specs.declared.rr.rdata.RData.{RData}
use Rattle.wire_messages.specs.declared.rr.record.Record.{Record}
use Rattle.wire_messages.specs.declared.rr.tsig.TSigResponseContext.{TSigResponseContext}
use Rattle.hickory_base.specs.Failures.{is_nx_domain}
use Rattle.hickory_base.specs.requests.Questions.{edns_version}
use Rattle.hickory_base.specs.requests.Requests.{ReceivedRequest}
use Rattle.hickory_base.specs.declared.errors.LookupError.{LookupError}
use Rattle.hickory_base.specs.declared.errors.LookupError.TheVariants.{ResponseCode}
use Rattle.hickory_base.specs.declared.requests.message_request.MessageRequest.{MessageRequest}
use Rattle.hickory_base.specs.declared.zone_store.handler.ZoneHandler.{Ghosts}
use Rattle.hickory_base.specs.declared.zone_store.handler.ZoneType.{ZoneType}
use Rattle.hickory_base.specs.declared.zone_store.handler.ZoneType.TheVariants.{Primary, Secondary, External}
use Rattle.hickory_base.specs.declared.zone_store.lookup.AuthLookup.{AuthLookup}
use Rattle.hickory_base.specs.declared.zone_store.lookup.WholeReply.{WholeReply}
use Rattle.hickory_base.specs.declared.zone_store.lookup.ZoneTransfer.{ZoneTransfer}
use Rattle.hickory_base.specs.zone_store.Lookups.{whole_reply}
use Rattle.hickory_catalog.specs.queries.Authoritative.{AuthoritativeReply, refuses, denies, finds}
use Rattle.hickory_catalog.specs.queries.AuthoritativeLaws.{AuthoritativeCodes}
use Rattle.hickory_catalog.specs.replies.DecodedReplies.{IsReplyHeader, RepliesTo}
use Rattle.hickory_catalog.specs.queries.Forwarded.{findings_contents, findings_of, forwarded_contents, forwarded_metadata, is_authentic, validated}
use Rattle.hickory_catalog.specs.queries.ForwardedLaws.{ForwardedCodes, is_one_of}
use Rattle.hickory_catalog.specs.queries.Queries.{ChainReplies, GivenReplies, HandlerReply, QueryReplies, ReplyByType, ZoneReplies, ZoneReply, lookup, no_zone, one, other_count, split, transfer, unanswered, untransferred, whole, whole_contents, zone}
use Rattle.hickory_catalog.specs.queries.Queries as by_chain
use Rattle.hickory_catalog.specs.replies.Replies.{Contents, bare_contents, error_reply, unsigned_reply}
use Rattle.hickory_catalog.specs.replies.ReplyEdns.{reply_edns, with_high_code}
use Rattle.hickory_catalog.specs.requests.Requests.{RequestAnswered, header_fault, is_request, request_fault}
use Rattle.hickory_catalog.specs.requests.Requests as comes_to
use Rattle.hickory_catalog.specs.requests.Server.{Server}
use Rattle.hickory_catalog.specs.replies.Signing.{SignedReply, Signer, failed, plain, signed}
use Rattle.hickory_catalog.specs.transfers.Transfers.{message_of_transfer, transfer_contents, transfer_fault}
use Rattle.hickory_catalog.specs.updates.Updates.{UpdateReply, answered, no_apex, no_handler, unnamed}
use Rattle.hickory_catalog.specs.transfers.WholeTransfers.{ChainTransfers, TransferReplies}
use Rattle.hickory_catalog.specs.transfers.WholeTransfers as whole_transfers

-- codes of twelve bits
small_code : (codes : List ℕ) (code : ℕ) → AllByRecursion (λ c. c < 2 ^ 12) codes → is_one_of codes code ≡ true → code < 2 ^ 12
small_code [] code all h = absurd cc
small_code (c ∷ cs) code all h = case (nat_eq code c) refl h (small_code cs code all.1) where
  case : (b : Bool) → nat_eq code c ≡ b → (b || is_one_of cs code) ≡ true → (is_one_of cs code ≡ true → code < 2 ^ 12) → code < 2 ^ 12
  case true e k rest = let first : c < 2 ^ 12 = all.0 in let same : code ≡ c = grind (arith, nat_tests) in omega arith
  case false e k rest = rest k

negative_small : (b : Bool) → cond b 3 0 < 2 ^ 12
negative_small true = omega arith
negative_small false = omega arith

transfer_small : (e : LookupError) → transfer_fault e < 2 ^ 12
transfer_small (ResponseCode code) = refused (code == 5) (code == 9) refl refl where
  refused : (a b : Bool) → (code == 5) ≡ a → (code == 9) ≡ b → transfer_fault (ResponseCode code) < 2 ^ 12
  refused true b e f = let same : code ≡ 5 = grind (arith, nat_tests) in let small : code < 2 ^ 12 = omega arith in rw e small
  refused false true e f = let same : code ≡ 9 = grind (arith, nat_tests) in let small : code < 2 ^ 12 = omega arith in rw (e, f) small
  refused false false e f = rw (e, f) (negative_small (code == 3))
transfer_small other = negative_small (is_nx_domain other)

fits_by : {request : Metadata} {contents made : Contents} → contents ≡ made → IsReplyHeader request made.metadata → IsReplyHeader request contents.metadata
fits_by {request} e f = subst (λ (x : Contents). IsReplyHeader request x.metadata) (sym e) f

module _ (request : MessageRequest) (edns : Option EdnsFields) where
  unsigned_fits : (contents : Contents) → IsReplyHeader request.metadata contents.metadata → RepliesTo request edns (unsigned_reply request edns contents)
  unsigned_fits contents h = record { header = h; question = refl; question_count = refl; edns_is = refl; one_list = refl }

  pub error_fits : (code : ℕ) → code < 2 ^ 12 → RepliesTo request edns (error_reply request edns code)
  error_fits code small = unsigned_fits _ (record { id = refl; op_code = refl; response_code = small; untruncated = refl })

  error_is : (reply : Reply) (code : ℕ) → code < 2 ^ 12 → reply ≡ error_reply request edns code → RepliesTo request edns reply
  error_is reply code small is = subst (RepliesTo request edns) (sym is) (error_fits code small)

  pub signed_fits : (signer : Signer) (contents : Contents) (context : Option TSigResponseContext) (reply : Reply)
      → SignedReply signer request edns contents context reply → IsReplyHeader request.metadata contents.metadata → RepliesTo request edns reply
  signed_fits signer contents _ reply (plain is) h = subst (RepliesTo request edns) (sym is) (unsigned_fits contents h)
  signed_fits signer contents _ reply (signed _ is) h =
      subst (RepliesTo request edns) (sym is) (record { header = h; question = refl; question_count = refl; edns_is = refl; one_list = refl })
  signed_fits signer contents _ reply (failed _ is) h = error_is reply 2 (omega arith) is

transfer_fits : (request : Metadata) (result : Result ZoneTransfer LookupError) → IsReplyHeader request (transfer_contents request result).metadata
transfer_fits request (Ok given) = record { id = refl; op_code = refl; response_code = omega arith; untruncated = refl }
transfer_fits request (Err e) = record { id = refl; op_code = refl; response_code = transfer_small e; untruncated = refl }

module _ (request : ReceivedRequest) (query : Query) (contents : Contents) where
  abbrev made_of : Bool → Result AuthLookup LookupError → Bool → Contents
  made_of validates result b = cond b
      (findings_contents request.message query (is_authentic validates request.message (findings_of query.name result)) (validated validates request.message.metadata (findings_of query.name result)))
      (bare_contents (forwarded_metadata request.message.metadata false 5))

  made_fits : (validates : Bool) (result : Result AuthLookup LookupError) (b : Bool) → (made_of validates result b).metadata.response_code < 2 ^ 12 → IsReplyHeader request.message.metadata (made_of validates result b).metadata
  made_fits validates result true small = record { id = refl; op_code = refl; response_code = small; untruncated = refl }
  made_fits validates result false small = record { id = refl; op_code = refl; response_code = small; untruncated = refl }

  forwarded_fits : ForwardedCodes → (validates : Bool) (result : Result AuthLookup LookupError) → contents ≡ forwarded_contents request.message query validates result → IsReplyHeader request.message.metadata contents.metadata
  forwarded_fits codes validates result is =
      fits_by is (made_fits validates result request.message.metadata.recursion_desired
      (small_code (0 ∷ 2 ∷ 3 ∷ 5 ∷ []) _ (omega arith, (omega arith, (omega arith, (omega arith, tt)))) (codes request.message query validates result).0))

  module _ {H : Type 0} (handler : Ghosts H) (codes : AuthoritativeCodes handler) (h : H) where
    coded : (result : Result AuthLookup LookupError) → AuthoritativeReply handler h request query contents result → contents.metadata.response_code < 2 ^ 12
    coded result r = small_code (0 ∷ 3 ∷ 5 ∷ 9 ∷ []) contents.metadata.response_code (omega arith, (omega arith, (omega arith, (omega arith, tt)))) (codes h request query contents result r).0

    known : (made : Contents) → contents ≡ made → contents.metadata.response_code < 2 ^ 12 → made.metadata.id ≡ request.message.metadata.id
        → made.metadata.op_code ≡ request.message.metadata.op_code → made.metadata.truncation ≡ false → IsReplyHeader request.message.metadata contents.metadata
    known made is small i o t = record { id = ap (λ (x : Contents). x.metadata.id) is ∙ i; op_code = ap (λ (x : Contents). x.metadata.op_code) is ∙ o; response_code = small; untruncated = ap (λ (x : Contents). x.metadata.truncation) is ∙ t }

    authoritative_fits : (result : Result AuthLookup LookupError) → AuthoritativeReply handler h request query contents result → contents.metadata.response_code < 2 ^ 12 → IsReplyHeader request.message.metadata contents.metadata
    authoritative_fits _ (refuses _ is) small = known _ is small refl refl refl
    authoritative_fits _ (denies _ _ _ _ _ _ _ is) small = known _ is small refl refl refl
    authoritative_fits _ (finds _ _ _ is) small = known _ is small refl refl refl

    typed_fits : ForwardedCodes → (zone_type : ZoneType) (result : Result AuthLookup LookupError) → ReplyByType handler h zone_type (record { request = request; query = query }) result contents → IsReplyHeader request.message.metadata contents.metadata
    typed_fits forwarded Primary result r = authoritative_fits result r (coded result r)
    typed_fits forwarded Secondary result r = authoritative_fits result r (coded result r)
    typed_fits forwarded External result is = forwarded_fits forwarded (handler.validates_dnssec h) result is

    handler_fits : ForwardedCodes → (zone_type : ZoneType) (result : Result AuthLookup LookupError) → HandlerReply handler h zone_type (record { request = request; query = query }) result contents → IsReplyHeader request.message.metadata contents.metadata
    handler_fits forwarded zone_type result r = fits (whole_reply result) r where
      fits : (reply : Option WholeReply)
          → MatchOption reply (ReplyByType handler h zone_type (record { request = request; query = query }) result contents) (λ w. (contents ≡ whole_contents request.message.metadata w) × (w.response_code < 2 ^ 12))
          → IsReplyHeader request.message.metadata contents.metadata
      fits None r = typed_fits forwarded zone_type result r
      fits (Some reply) r = fits_by r.0 (record { id = refl; op_code = refl; response_code = r.1; untruncated = refl })

-- one reply that fits, as a list
fits_alone : (request : MessageRequest) (edns : Option EdnsFields) (reply : Reply) (replies : List Reply) → replies ≡ reply ∷ [] → RepliesTo request edns reply → AllByRecursion (RepliesTo request edns) replies
fits_alone request edns reply replies is fits = subst (AllByRecursion (RepliesTo request edns)) (sym is) (fits, tt)

module _ (request : ReceivedRequest) (edns : Option EdnsFields) (replies : List Reply) where
  messages_fit : (runs : List (List (Record RData))) → AllByRecursion (RepliesTo request.message edns) (map (message_of_transfer request.message (with_high_code 0 edns)) runs)
  messages_fit [] = tt
  messages_fit (run ∷ runs) = (unsigned_fits request.message edns _ (record { id = refl; op_code = refl; response_code = omega arith; untruncated = refl }), messages_fit runs)

  given_fits : (signer : Signer) (result : Result ZoneTransfer LookupError) (context : Option TSigResponseContext) → GivenReplies signer request edns result context replies
      → AllByRecursion (RepliesTo request.message edns) replies
  given_fits signer result context (whole {reply = reply} _ _ s is) =
      fits_alone request.message edns reply replies is (signed_fits request.message edns signer _ context reply s (transfer_fits _ _))
  given_fits signer result context (split _ _ _ are) = subst (AllByRecursion (RepliesTo request.message edns)) (sym are.replies_are) (messages_fit are.runs)

module _ {H : Type 0} (server : Server H) (forwarded : ForwardedCodes) (codes : AuthoritativeCodes server.handler) (request : ReceivedRequest) (edns : Option EdnsFields) (now : ℕ) where
  zone_fits : (chain : List H) (query : Query) (reply : Reply) → ZoneReply server chain (record { request = request; query = query }) edns now reply → RepliesTo request.message edns reply
  zone_fits chain query reply (untransferred _ _ is) = error_is request.message edns reply 2 (omega arith) is
  zone_fits chain query reply (unanswered _ _ _ is) = error_is request.message edns reply 2 (omega arith) is
  zone_fits chain query reply (lookup contents _ _ _ _ _ r s) = signed_fits request.message edns server.signer contents _ reply s (handler_fits request query contents server.handler codes _ forwarded _ _ r)

  zone_all_fit : (chain : List H) (query : Query) (replies : List Reply) → ZoneReplies server chain (record { request = request; query = query }) edns now replies → AllByRecursion (RepliesTo request.message edns) replies
  zone_all_fit chain query replies (one {reply = reply} r is) = fits_alone request.message edns reply replies is (zone_fits chain query reply r)
  zone_all_fit chain query replies (transfer {result = result} {context = context} _ _ g) = given_fits request edns replies server.signer result context g

  pub by_chain_fit : (chain : List H) (replies : List Reply) → ChainReplies server chain request edns now replies → AllByRecursion (RepliesTo request.message edns) replies
  by_chain_fit chain replies (by_chain.other_count _ is) = fits_alone request.message edns _ replies is (error_fits request.message edns 1 (omega arith))
  by_chain_fit chain replies (by_chain.asked _ r) = zone_all_fit chain _ replies r

  pub query_fits : (replies : List Reply) → QueryReplies server request edns now replies → AllByRecursion (RepliesTo request.message edns) replies
  query_fits replies (other_count _ is) = fits_alone request.message edns _ replies is (error_fits request.message edns 1 (omega arith))
  query_fits replies (no_zone _ _ is) = fits_alone request.message edns _ replies is (error_fits request.message edns 5 (omega arith))
  query_fits replies (zone _ _ r) = zone_all_fit _ _ replies r

-- so is each reply to a query that is answered by what is given as a transfer
module _ {H : Type 0} (server : Server H) (request : ReceivedRequest) (edns : Option EdnsFields) (now : ℕ) where
  chain_fits : (chain : List H) (replies : List Reply) → ChainTransfers server chain request edns now replies → AllByRecursion (RepliesTo request.message edns) replies
  chain_fits chain replies (whole_transfers.nobody _ is) = fits_alone request.message edns _ replies is (error_fits request.message edns 2 (omega arith))
  chain_fits chain replies (whole_transfers.given {result = result} {context = context} _ g) = given_fits request edns replies server.signer result context g

  pub transferred_fits : (replies : List Reply) → TransferReplies server request edns now replies → AllByRecursion (RepliesTo request.message edns) replies
  transferred_fits replies (whole_transfers.other_count _ is) = fits_alone request.message edns _ replies is (error_fits request.message edns 1 (omega arith))
  transferred_fits replies (whole_transfers.no_zone _ _ is) = fits_alone request.message edns _ replies is (error_fits request.message edns 5 (omega arith))
  transferred_fits replies (whole_transfers.zone _ _ c) = chain_fits _ replies c

-- so is the reply to an update
pub update_fits : {H : Type 0} (server : Server H) (request : ReceivedRequest) (edns : Option EdnsFields) (now : ℕ) (reply : Reply) (zones : List (DomainName × List H))
    → request.message.metadata.op_code ≡ 5 → UpdateReply server request edns now reply zones → RepliesTo request.message edns reply
update_fits server request edns now reply zones updates (unnamed _ is _) = error_is request.message edns reply 1 (omega arith) is
update_fits server request edns now reply zones updates (no_apex _ _ is _) = error_is request.message edns reply 9 (omega arith) is
update_fits server request edns now reply zones updates (no_handler _ _ is _) = error_is request.message edns reply 2 (omega arith) is
update_fits server request edns now reply zones updates (answered _ _ _ small s) =
    signed_fits request.message edns server.signer _ _ reply s (record { id = refl; op_code = sym updates; response_code = small; untruncated = refl })

-- a code for which a request is not looked into has twelve bits
header_small : (asks known : Bool) (code : ℕ) → cond asks (cond known None (Some 4)) (Some 1) ≡ Some code → code < 2 ^ 12
header_small true true code e = absurd cc
header_small true false code e = let same : 4 ≡ code = cc in omega arith
header_small false known code e = let same : 1 ≡ code = cc in omega arith

fault_small : (version : Bool) (fault : Option ℕ) (code : ℕ) → cond version fault (Some 16) ≡ Some code → (fault ≡ Some code → code < 2 ^ 12) → code < 2 ^ 12
fault_small true fault code e small = small e
fault_small false fault code e small = let same : 16 ≡ code = cc in omega arith

refusal_small : (request : MessageRequest) (code : ℕ) → request_fault request ≡ Some code → code < 2 ^ 12
refusal_small request code e =
    fault_small (edns_version request.edns == 0) (header_fault request) code e
    (header_small (is_request request.metadata.message_type) (request.metadata.op_code == 0 || request.metadata.op_code == 5) code)

-- so is each reply to a request
pub request_fits : {H : Type 0} (server : Server H) → ForwardedCodes → AuthoritativeCodes server.handler → (request : ReceivedRequest) (now : ℕ) (replies : List Reply) (zones : List (DomainName × List H))
    → RequestAnswered server request now replies zones → AllByRecursion (RepliesTo request.message (reply_edns server.identifier request.message.edns)) replies
request_fits server forwarded codes request now replies zones (comes_to.refused {code = code} fault is unchanged) =
    let edns = reply_edns server.identifier request.message.edns in
    fits_alone request.message edns (error_reply request.message edns code) replies is (error_fits request.message edns code (refusal_small request.message code fault))
request_fits server forwarded codes request now replies zones (comes_to.asks fault query a) = query_fits server forwarded codes request (reply_edns server.identifier request.message.edns) now replies a.are_replies
request_fits server forwarded codes request now replies zones (comes_to.updates fault is a) =
    let edns = reply_edns server.identifier request.message.edns in
    let op_code : request.message.metadata.op_code ≡ 5 = grind (arith, nat_tests) in
    fits_alone request.message edns a.reply replies a.only (update_fits server request edns now a.reply zones op_code a.is_reply)
