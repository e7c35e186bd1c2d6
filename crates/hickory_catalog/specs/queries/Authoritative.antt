-- Replies of a server that holds the zone, or a copy of it.
use Rattle.std.specs.Prelude.{◌≡◌, ◌==◌, ◌&&◌, ◌||◌, not, ℕ, Bool, true, false, cond, List, [], ◌∷◌, ◌++◌, Option, Some, None, Result, Ok, Err}
use Rattle.std.specs.Bool.{MatchBool}
use Rattle.std.specs.Option.{unwrap_or}
use Rattle.wire_messages.specs.Numbers.{code_no_error, code_not_auth, code_nx_domain, code_refused, type_any, type_ns, type_soa}
use Rattle.wire_messages.specs.op.Metadata.{response_to}
use Rattle.wire_messages.specs.rr.RecordData.{type_of}
use Rattle.wire_messages.specs.declared.op.header.Metadata.{Metadata}
use Rattle.wire_messages.specs.declared.op.query.Query.{Query}
use Rattle.wire_messages.specs.declared.rr.rdata.RData.{RData}
use Rattle.wire_messages.specs.declared.rr.record.Record.{Record}
use Rattle.hickory_base.specs.Failures.{is_nx_domain}
use Rattle.hickory_base.specs.zone_store.Lookups.{Flow, answers_of, additionals_of}
use Rattle.hickory_base.specs.requests.Requests.{ReceivedRequest}
use Rattle.hickory_base.specs.declared.errors.LookupError.{LookupError}
use Rattle.hickory_base.specs.declared.errors.LookupError.TheVariants.{ResponseCode}
use Rattle.hickory_base.specs.declared.zone_store.handler.ZoneHandler.{Ghosts}
use Rattle.hickory_base.specs.declared.zone_store.lookup.AuthLookup.{AuthLookup}
use Rattle.hickory_base.specs.declared.zone_store.lookup.LookupOptions.{LookupOptions}
use Rattle.hickory_base.specs.declared.zone_store.lookup.LookupControlFlow.TheVariants.{Skip}
use Rattle.hickory_catalog.specs.queries.DenialRecords.{DenialBesideAnswer, DenialOfNegative, is_wildcard_match, records_given}
use Rattle.hickory_catalog.specs.replies.Replies.{Contents, bare_contents}
use Rattle.hickory_catalog.specs.queries.Transcripts.{options_of, wants_memory}

-- a reply with AA and this response code (RFC 1035 section 4.1.1)
abbrev pub authoritative_metadata : Metadata → ℕ → Metadata
authoritative_metadata request code = record (response_to request) { authoritative = true; response_code = code }

-- the code with which a handler refuses to answer: Refused or NotAuth
abbrev pub refusal_code : LookupError → Option ℕ
refusal_code (ResponseCode code) = cond (code == code_refused || code == code_not_auth) (Some code) None
refusal_code other = None

-- The code of a negative reply: NXDomain where the name does not exist (RFC 2308 section 2.1), else NoError. So any
-- other failure looks like no data (section 2.2), ServFail too, as in the Rust crate.
abbrev pub negative_code : LookupError → ℕ
negative_code e = cond (is_nx_domain e) code_nx_domain code_no_error

-- the denials of a negative reply; where the zone's SOA was skipped, none
abbrev pub denial_section : Flow → Flow → List (Record RData)
denial_section denial Skip = []
denial_section denial soa = records_given denial

-- What a negative reply says: the denials, and the SOA of the zone behind them (RFC 2308 section 3, RFC 4035 section
-- 3.1.3). Its TTL is as the handler gave it; RFC 2308 section 3 would have the lesser of it and MINIMUM.
abbrev pub negative_contents : Metadata → LookupError → Flow → Flow → Contents
negative_contents request e denial soa = record (bare_contents (authoritative_metadata request (negative_code e))) { authorities = denial_section denial soa ++ records_given soa }

-- the first record is one of type NS
abbrev pub starts_with_ns : List (Record RData) → Bool
starts_with_ns [] = false
starts_with_ns (r ∷ rs) = type_of r.rdata == type_ns

-- The records are a referral to the servers of a zone below (RFC 1034 section 4.3.2, step 3b): NS records that were
-- asked for neither as such nor as any type.
abbrev pub is_referral : ℕ → List (Record RData) → Bool
is_referral query_type records = starts_with_ns records && not (query_type == type_ns || query_type == type_any)

-- what stands in the answer section: what was asked for, but no referral
abbrev pub answer_section : ℕ → List (Record RData) → List (Record RData)
answer_section query_type records = cond (is_referral query_type records) [] records

-- what stands at the front of the authority section: a referral
abbrev pub referral_section : ℕ → List (Record RData) → List (Record RData)
referral_section query_type records = cond (is_referral query_type records) records []

-- what stands in the additional section: what the zone gave with its records
abbrev pub additional_section : AuthLookup → List (Record RData)
additional_section found = unwrap_or (additionals_of found) []

-- What a reply says with what was found, and with what else the handler gave for the authority section. AA is set with
-- a referral too, as in the Rust crate, where RFC 1034 section 6.2.6 has it clear.
abbrev pub positive_contents : Metadata → ℕ → AuthLookup → Flow → Contents
positive_contents request query_type found beside = record {
  metadata = authoritative_metadata request code_no_error;
  answers = answer_section query_type (answers_of found);
  authorities = referral_section query_type (answers_of found) ++ records_given beside;
  additionals = additional_section found;
}

-- What else a handler gives for the authority section of a positive reply: with the SOA of the zone its servers; with
-- other records a denial, where one is wanted.
abbrev pub BesideAnswer : {H : Type 0} → Ghosts H → H → Query → LookupOptions → AuthLookup → Flow → Type 0
BesideAnswer handler h query options found given = MatchBool (query.query_type == type_soa)
    (handler.lookup_gives h (handler.origin_of h) type_ns None options given)
    (DenialBesideAnswer handler h query (is_wildcard_match (answers_of found)) options given)

-- What a handler that holds the zone replies to what the chain answered in the end. Each call that it takes is one of
-- the handler that was asked, with the options of the request and without information on it; none of them wants memory.
pub data AuthoritativeReply {H : Type 0} (handler : Ghosts H) (h : H) (request : ReceivedRequest) (query : Query) (contents : Contents)
    : Result AuthLookup LookupError → Type 0 where
  -- It refuses, and no more is asked.
  refuses : {e : LookupError} {code : ℕ} → refusal_code e ≡ Some code
      → contents ≡ bare_contents (authoritative_metadata request.message.metadata code)
      → AuthoritativeReply handler h request query contents (Err e)
  -- Any other error: where DO is set and the zone can deny, a denial is asked for; then the SOA of the zone.
  denies : {e : LookupError} (denial soa : Flow) → refusal_code e ≡ None
      → DenialOfNegative handler h query (options_of request) denial → wants_memory denial ≡ false
      → handler.lookup_gives h (handler.origin_of h) type_soa None (options_of request) soa → wants_memory soa ≡ false
      → contents ≡ negative_contents request.message.metadata e denial soa
      → AuthoritativeReply handler h request query contents (Err e)
  -- It has records.
  finds : {found : AuthLookup} (beside : Flow) → BesideAnswer handler h query (options_of request) found beside → wants_memory beside ≡ false
      → contents ≡ positive_contents request.message.metadata query.query_type found beside
      → AuthoritativeReply handler h request query contents (Ok found)
