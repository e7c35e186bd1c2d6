-- Laws of the replies of a server that holds the zone: what anybody can see of such a reply.
use Rattle.std.specs.Prelude.{◌≡◌, ◌⊎◌, true, false, [], ◌∷◌, None, Result, Err}
use Rattle.wire_messages.specs.Numbers.{code_no_error, code_not_auth, code_nx_domain, code_refused, type_any, type_ns, type_soa}
use Rattle.wire_messages.specs.declared.op.header.Metadata.{Metadata}
use Rattle.wire_messages.specs.declared.op.query.Query.{Query}
use Rattle.hickory_base.specs.zone_store.Lookups.{Flow, asks_for_dnssec}
use Rattle.hickory_base.specs.requests.Requests.{ReceivedRequest}
use Rattle.hickory_base.specs.declared.errors.LookupError.{LookupError}
use Rattle.hickory_base.specs.declared.zone_store.handler.ZoneHandler.{Ghosts}
use Rattle.hickory_base.specs.declared.zone_store.lookup.AuthLookup.{AuthLookup}
use Rattle.hickory_catalog.specs.queries.Authoritative.{AuthoritativeReply, refusal_code, starts_with_ns}
use Rattle.hickory_catalog.specs.queries.DenialRecords.{records_given}
use Rattle.hickory_catalog.specs.queries.ForwardedLaws.{HasNoRecords, is_one_of}
use Rattle.hickory_catalog.specs.replies.Replies.{Contents}
use Rattle.hickory_catalog.specs.queries.Transcripts.{options_of}

-- AA is set, also in a referral; RA is clear, since the server asks nobody; AD is clear, since it judges no proofs; RD
-- and CD are those of the request (RFC 1035 section 4.1.1, RFC 4035 sections 3.1.6 and 3.2.2).
pub record HasAuthoritativeHeader (request reply : Metadata) : Type 0 where
  pub authoritative : reply.authoritative ≡ true
  pub recursion_available : reply.recursion_available ≡ false
  pub authentic_data : reply.authentic_data ≡ false
  pub recursion_desired : reply.recursion_desired ≡ request.recursion_desired
  pub checking_disabled : reply.checking_disabled ≡ request.checking_disabled

abbrev pub AuthoritativeHeaders : {H : Type 0} → Ghosts H → Type 0
AuthoritativeHeaders {H} handler = (h : H) (request : ReceivedRequest) (query : Query) (contents : Contents) (result : Result AuthLookup LookupError)
    → AuthoritativeReply handler h request query contents result → HasAuthoritativeHeader request.message.metadata contents.metadata

-- The code is NoError, NXDomain, Refused or NotAuth (RFC 1035 section 4.1.1, RFC 2136 section 2.2). All but NoError
-- have no answers, and the last two no records at all.
abbrev pub AuthoritativeCodes : {H : Type 0} → Ghosts H → Type 0
AuthoritativeCodes {H} handler = (h : H) (request : ReceivedRequest) (query : Query) (contents : Contents) (result : Result AuthLookup LookupError)
    → AuthoritativeReply handler h request query contents result
    → (is_one_of (code_no_error ∷ code_nx_domain ∷ code_refused ∷ code_not_auth ∷ []) contents.metadata.response_code ≡ true)
    × (is_one_of (code_nx_domain ∷ code_refused ∷ code_not_auth ∷ []) contents.metadata.response_code ≡ true → contents.answers ≡ [])
    × (is_one_of (code_refused ∷ code_not_auth ∷ []) contents.metadata.response_code ≡ true → HasNoRecords contents)

-- The answers never begin with an NS that was asked for neither as such nor as any type: a referral stands in the
-- authority section (RFC 1034 section 4.3.2, step 3b).
abbrev pub ReferralsAreNoAnswers : {H : Type 0} → Ghosts H → Type 0
ReferralsAreNoAnswers {H} handler = (h : H) (request : ReceivedRequest) (query : Query) (contents : Contents) (result : Result AuthLookup LookupError)
    → AuthoritativeReply handler h request query contents result → starts_with_ns contents.answers ≡ true → (query.query_type ≡ type_ns) ⊎ (query.query_type ≡ type_any)

-- A negative reply has nothing but authorities. To a client without DO they are what the handler gives as the SOA of
-- its origin, and nothing else (RFC 2308 section 3).
abbrev pub NegativeReplies : {H : Type 0} → Ghosts H → Type 0
NegativeReplies {H} handler = (h : H) (request : ReceivedRequest) (query : Query) (contents : Contents) (e : LookupError)
    → AuthoritativeReply handler h request query contents (Err e) → refusal_code e ≡ None
    → (contents.answers ≡ []) × (contents.additionals ≡ [])
    × (asks_for_dnssec request.message.edns ≡ false
    → (soa : Flow) × handler.lookup_gives h (handler.origin_of h) type_soa None (options_of request) soa × (contents.authorities ≡ records_given soa))
