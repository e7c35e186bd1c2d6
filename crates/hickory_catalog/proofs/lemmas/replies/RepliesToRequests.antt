-- Each reply belongs to its request.
use Rattle.std.proofs.Common.{◌≡◌, ℕ, Bool, true, false, cond, List, [], ◌∷◌, map, Option, Some, None, MatchOption, Result, Ok, Err, refl, sym, subst, ◌∙◌, ◌<◌, ◌^◌}
use Rattle.std.specs.List.{AllByRecursion}
use Rattle.std.specs.Prelude.{is_some}
use Rattle.wire_names.specs.rr.domain.DomainName.{DomainName}
use Rattle.wire_messages.specs.op.EdnsFields.{EdnsFields}
use Rattle.wire_messages.specs.serialize.writing.Reply.{Reply}
use Rattle.wire_messages.specs.declared.op.header.Metadata.{Metadata}
use Rattle.wire_messages.specs.declared.op.query.Query.{Query}
use Rattle.wire_messages.specs.declared.rr.rdata.RData.{RData}
use Rattle.wire_messages.specs.declared.rr.record.Record.{Record}
use Rattle.wire_messages.specs.declared.rr.tsig.TSigResponseContext.{TSigResponseContext}
use Rattle.hickory_base.specs.requests.Requests.{ReceivedRequest}
use Rattle.hickory_base.specs.declared.errors.LookupError.{LookupError}
use Rattle.hickory_base.specs.declared.zone_store.handler.ZoneHandler.{Ghosts}
use Rattle.hickory_base.specs.declared.zone_store.handler.ZoneType.{ZoneType}
use Rattle.hickory_base.specs.declared.zone_store.handler.ZoneType.TheVariants.{Primary, Secondary, External}
use Rattle.hickory_base.specs.declared.zone_store.lookup.AuthLookup.{AuthLookup}
use Rattle.hickory_base.specs.declared.zone_store.lookup.WholeReply.{WholeReply}
use Rattle.hickory_base.specs.declared.zone_store.lookup.ZoneTransfer.{ZoneTransfer}
use Rattle.hickory_base.specs.zone_store.Lookups.{whole_reply}
use Rattle.hickory_catalog.specs.queries.Authoritative.{AuthoritativeReply, refuses, denies, finds}
use Rattle.hickory_catalog.specs.queries.Forwarded.{findings_of, findings_contents, forwarded_contents, forwarded_metadata, is_authentic, validated}
use Rattle.hickory_catalog.specs.queries.Queries.{GivenReplies, HandlerReply, QueryReplies, ReplyByType, ZoneReplies, ZoneReply, lookup, no_zone, one, other_count, split, transfer, unanswered, untransferred, whole, whole_contents, zone}
use Rattle.hickory_catalog.specs.replies.Replies.{Contents, bare_contents, error_reply, unsigned_reply}
use Rattle.hickory_catalog.specs.replies.ReplyEdns.{reply_edns, with_high_code}
use Rattle.hickory_catalog.specs.requests.Requests.{BelongsTo}
use Rattle.hickory_catalog.specs.requests.Server.{Server}
use Rattle.hickory_catalog.specs.replies.Signing.{SignedReply, Signer, failed, plain, signed}
use Rattle.hickory_catalog.specs.transfers.Transfers.{message_of_transfer, transfer_contents}
use Rattle.hickory_catalog.specs.updates.Updates.{UpdateReply, answered, no_apex, no_handler, unnamed}

-- what a reply says that has the identifier of this request, and no TC
record FitsRequest (request : Metadata) (contents : Contents) : Type 0 where
  id : contents.metadata.id ≡ request.id
  untruncated : contents.metadata.truncation ≡ false

fits_by : {request : Metadata} {contents made : Contents} → contents ≡ made → FitsRequest request made → FitsRequest request contents
fits_by {request} e f = subst (FitsRequest request) (sym e) f

coded : (code : ℕ) (edns : Option EdnsFields) → is_some (with_high_code code edns) ≡ is_some edns
coded code None = refl
coded code (Some e) = refl

asked : (identifier : Option (List ℕ)) (edns : Option EdnsFields) → is_some (reply_edns identifier edns) ≡ is_some edns
asked identifier None = refl
asked identifier (Some e) = refl

module _ (request : ReceivedRequest) (edns : Option EdnsFields) where
  unsigned_belongs : (contents : Contents) → FitsRequest request.message.metadata contents → BelongsTo request edns (unsigned_reply request.message edns contents)
  unsigned_belongs contents f = record { id = f.id; edns_kept = coded contents.metadata.response_code edns; untruncated = f.untruncated }

  error_belongs : (reply : Reply) (code : ℕ) → reply ≡ error_reply request.message edns code → BelongsTo request edns reply
  error_belongs reply code is = subst (BelongsTo request edns) (sym is) (unsigned_belongs _ (record { id = refl; untruncated = refl }))

  signed_belongs : (signer : Signer) (contents : Contents) (reply : Reply) {context : Option TSigResponseContext} → FitsRequest request.message.metadata contents
      → SignedReply signer request.message edns contents context reply → BelongsTo request edns reply
  signed_belongs signer contents reply f (plain is) = subst (BelongsTo request edns) (sym is) (unsigned_belongs contents f)
  signed_belongs signer contents reply f (signed _ is) =
      let b = unsigned_belongs contents f in subst (BelongsTo request edns) (sym is) (record { id = b.id; edns_kept = b.edns_kept; untruncated = b.untruncated })
  signed_belongs signer contents reply f (failed _ is) = error_belongs reply 2 is

transfer_fits : (request : Metadata) (result : Result ZoneTransfer LookupError) → FitsRequest request (transfer_contents request result)
transfer_fits request (Ok given) = record { id = refl; untruncated = refl }
transfer_fits request (Err e) = record { id = refl; untruncated = refl }

module _ (request : ReceivedRequest) (query : Query) (contents : Contents) where
  forwarded_fits : (validates : Bool) (result : Result AuthLookup LookupError) → contents ≡ forwarded_contents request.message query validates result → FitsRequest request.message.metadata contents
  forwarded_fits validates result is = wanted request.message.metadata.recursion_desired is where
    wanted : (b : Bool) → contents ≡ cond b
        (findings_contents request.message query (is_authentic validates request.message (findings_of query.name result)) (validated validates request.message.metadata (findings_of query.name result)))
        (bare_contents (forwarded_metadata request.message.metadata false 5)) → FitsRequest request.message.metadata contents
    wanted true is = fits_by is (record { id = refl; untruncated = refl })
    wanted false is = fits_by is (record { id = refl; untruncated = refl })

  authoritative_fits : {H : Type 0} (handler : Ghosts H) (h : H) (result : Result AuthLookup LookupError) → AuthoritativeReply handler h request query contents result → FitsRequest request.message.metadata contents
  authoritative_fits handler h _ (refuses _ is) = fits_by is (record { id = refl; untruncated = refl })
  authoritative_fits handler h _ (denies _ _ _ _ _ _ _ is) = fits_by is (record { id = refl; untruncated = refl })
  authoritative_fits handler h _ (finds _ _ _ is) = fits_by is (record { id = refl; untruncated = refl })

  typed_fits : {H : Type 0} (handler : Ghosts H) (h : H) (zone_type : ZoneType) (result : Result AuthLookup LookupError) → ReplyByType handler h zone_type (record { request = request; query = query }) result contents → FitsRequest request.message.metadata contents
  typed_fits handler h Primary result r = authoritative_fits handler h result r
  typed_fits handler h Secondary result r = authoritative_fits handler h result r
  typed_fits handler h External result is = forwarded_fits (handler.validates_dnssec h) result is

  handler_fits : {H : Type 0} (handler : Ghosts H) (h : H) (zone_type : ZoneType) (result : Result AuthLookup LookupError) → HandlerReply handler h zone_type (record { request = request; query = query }) result contents → FitsRequest request.message.metadata contents
  handler_fits handler h zone_type result r = fits (whole_reply result) r where
    fits : (reply : Option WholeReply)
        → MatchOption reply (ReplyByType handler h zone_type (record { request = request; query = query }) result contents) (λ w. (contents ≡ whole_contents request.message.metadata w) × (w.response_code < 2 ^ 12))
        → FitsRequest request.message.metadata contents
    fits None r = typed_fits handler h zone_type result r
    fits (Some reply) r = fits_by r.0 (record { id = refl; untruncated = refl })

module _ (request : ReceivedRequest) (edns : Option EdnsFields) (replies : List Reply) where
  -- one reply that belongs to its request, as a list
  belongs_alone : (reply : Reply) → replies ≡ reply ∷ [] → BelongsTo request edns reply → AllByRecursion (BelongsTo request edns) replies
  belongs_alone reply is belongs = subst (AllByRecursion (BelongsTo request edns)) (sym is) (belongs, tt)

  messages_belong : (runs : List (List (Record RData))) → AllByRecursion (BelongsTo request edns) (map (message_of_transfer request.message (with_high_code 0 edns)) runs)
  messages_belong [] = tt
  messages_belong (run ∷ runs) = (unsigned_belongs request edns _ (record { id = refl; untruncated = refl }), messages_belong runs)

  given_belong : (signer : Signer) (result : Result ZoneTransfer LookupError) (context : Option TSigResponseContext) → GivenReplies signer request edns result context replies
      → AllByRecursion (BelongsTo request edns) replies
  given_belong signer result context (whole {reply = reply} _ _ s is) = belongs_alone reply is (signed_belongs request edns signer _ reply (transfer_fits _ _) s)
  given_belong signer result context (split _ _ _ are) = subst (AllByRecursion (BelongsTo request edns)) (sym are.replies_are) (messages_belong are.runs)

module _ {H : Type 0} (server : Server H) (request : ReceivedRequest) (edns : Option EdnsFields) (now : ℕ) where
  zone_belongs : (chain : List H) (query : Query) (reply : Reply) → ZoneReply server chain (record { request = request; query = query }) edns now reply → BelongsTo request edns reply
  zone_belongs chain query reply (untransferred _ _ is) = error_belongs request edns reply 2 is
  zone_belongs chain query reply (unanswered _ _ _ is) = error_belongs request edns reply 2 is
  zone_belongs chain query reply (lookup contents _ _ _ _ _ r s) = signed_belongs request edns server.signer contents reply (handler_fits request query contents server.handler _ _ _ r) s

  zone_all_belong : (chain : List H) (query : Query) (replies : List Reply) → ZoneReplies server chain (record { request = request; query = query }) edns now replies → AllByRecursion (BelongsTo request edns) replies
  zone_all_belong chain query replies (one {reply = reply} r is) = belongs_alone request edns replies reply is (zone_belongs chain query reply r)
  zone_all_belong chain query replies (transfer {result = result} {context = context} _ _ g) = given_belong request edns replies server.signer result context g

  pub query_belongs : (replies : List Reply) → QueryReplies server request edns now replies → AllByRecursion (BelongsTo request edns) replies
  query_belongs replies (other_count _ is) = belongs_alone request edns replies _ is (error_belongs request edns _ 1 refl)
  query_belongs replies (no_zone _ _ is) = belongs_alone request edns replies _ is (error_belongs request edns _ 5 refl)
  query_belongs replies (zone _ _ r) = zone_all_belong _ _ replies r

-- so does the reply to an update
pub update_belongs : {H : Type 0} (server : Server H) (request : ReceivedRequest) (edns : Option EdnsFields) (now : ℕ) (reply : Reply) (zones : List (DomainName × List H))
    → UpdateReply server request edns now reply zones → BelongsTo request edns reply
update_belongs server request edns now reply zones (unnamed _ is _) = error_belongs request edns reply 1 is
update_belongs server request edns now reply zones (no_apex _ _ is _) = error_belongs request edns reply 9 is
update_belongs server request edns now reply zones (no_handler _ _ is _) = error_belongs request edns reply 2 is
update_belongs server request edns now reply zones (answered _ _ _ _ s) = signed_belongs request edns server.signer _ reply (record { id = refl; untruncated = refl }) s

module _ (identifier : Option (List ℕ)) (request : ReceivedRequest) (reply : Reply) where
  -- from the reply's EDNS to that of the request
  pub to_request : BelongsTo request (reply_edns identifier request.message.edns) reply → BelongsTo request request.message.edns reply
  to_request b = record { id = b.id; edns_kept = b.edns_kept ∙ asked identifier request.message.edns; untruncated = b.untruncated }

  pub refusal_belongs : (code : ℕ) → reply ≡ error_reply request.message (reply_edns identifier request.message.edns) code → BelongsTo request request.message.edns reply
  refusal_belongs code is = to_request (error_belongs request _ reply code is)

-- from the replies' EDNS to that of the request
pub all_to_request : (identifier : Option (List ℕ)) (request : ReceivedRequest) (replies : List Reply) → AllByRecursion (BelongsTo request (reply_edns identifier request.message.edns)) replies
    → AllByRecursion (BelongsTo request request.message.edns) replies
all_to_request identifier request [] all = tt
all_to_request identifier request (reply ∷ replies) all = (to_request identifier request reply all.0, all_to_request identifier request replies all.1)
