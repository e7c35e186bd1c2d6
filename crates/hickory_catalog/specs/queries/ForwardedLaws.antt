-- Laws of the replies of a server that asked elsewhere: what anybody can see of such a reply.
use Rattle.std.specs.Prelude.{◌≡◌, ◌≢◌, ◌||◌, nat_eq, ℕ, Bool, true, false, List, [], ◌∷◌, ◌++◌, Option, None, IfSome, IsSome, option_to_list, OnErr, Result, Ok, Err}
use Rattle.std.specs.List.{AllByRecursion, list_any}
use Rattle.wire_messages.specs.Numbers.{code_no_error, code_nx_domain, code_refused, code_serv_fail, type_soa}
use Rattle.wire_messages.specs.rr.RecordData.{type_of}
use Rattle.wire_messages.specs.declared.op.header.Metadata.{Metadata}
use Rattle.wire_messages.specs.declared.op.query.Query.{Query}
use Rattle.wire_messages.specs.declared.rr.rdata.RData.{RData}
use Rattle.wire_messages.specs.declared.rr.record.Proof.TheVariants.{Secure, Bogus}
use Rattle.wire_messages.specs.declared.rr.record.Record.{Record}
use Rattle.hickory_base.specs.Failures.{soa_of}
use Rattle.hickory_base.specs.zone_store.Lookups.{answers_of, asks_for_dnssec}
use Rattle.hickory_base.specs.declared.errors.LookupError.{LookupError}
use Rattle.hickory_base.specs.declared.requests.message_request.MessageRequest.{MessageRequest}
use Rattle.hickory_base.specs.declared.zone_store.lookup.AuthLookup.{AuthLookup}
use Rattle.hickory_catalog.specs.queries.Forwarded.{forwarded_contents, is_dnssec_type}
use Rattle.hickory_catalog.specs.replies.Replies.{Contents}

-- the code is one of these
abbrev pub is_one_of : List ℕ → ℕ → Bool
is_one_of codes code = list_any (nat_eq code) codes

-- There is no record in any section.
pub record HasNoRecords (contents : Contents) : Type 0 where
  pub answers : contents.answers ≡ []
  pub authorities : contents.authorities ≡ []
  pub additionals : contents.additionals ≡ []

-- AA is clear, since the server holds no zone, and RA is set, since it asks for others (RFC 1035 section 4.1.1). RD and
-- CD are those of the request (RFC 4035 section 3.2.2).
pub record HasForwardedHeader (request reply : Metadata) : Type 0 where
  pub authoritative : reply.authoritative ≡ false
  pub recursion_available : reply.recursion_available ≡ true
  pub recursion_desired : reply.recursion_desired ≡ request.recursion_desired
  pub checking_disabled : reply.checking_disabled ≡ request.checking_disabled

abbrev pub ForwardedHeaders : Type 0
ForwardedHeaders = (request : MessageRequest) (query : Query) (validates : Bool) (result : Result AuthLookup LookupError)
    → HasForwardedHeader request.metadata (forwarded_contents request query validates result).metadata

-- The code is NoError, ServFail, NXDomain or Refused (RFC 1035 section 4.1.1), and ServFail has no answers.
abbrev pub ForwardedCodes : Type 0
ForwardedCodes = (request : MessageRequest) (query : Query) (validates : Bool) (result : Result AuthLookup LookupError)
    → let contents = forwarded_contents request query validates result in
    (is_one_of (code_no_error ∷ code_serv_fail ∷ code_nx_domain ∷ code_refused ∷ []) contents.metadata.response_code ≡ true)
    × (contents.metadata.response_code ≡ code_serv_fail → contents.answers ≡ [])

-- Without RD the reply is Refused, and nothing that is known is told.
abbrev pub RefusedWithoutRecursion : Type 0
RefusedWithoutRecursion = (request : MessageRequest) (query : Query) (validates : Bool) (result : Result AuthLookup LookupError)
    → request.metadata.recursion_desired ≡ false
    → let contents = forwarded_contents request query validates result in (contents.metadata.response_code ≡ code_refused) × HasNoRecords contents

-- there is something that can be proved: records, or the SOA of a negative answer
abbrev pub HasJudgedRecords : Result AuthLookup LookupError → Type 0
HasJudgedRecords (Ok found) = answers_of found ≢ []
HasJudgedRecords (Err e) = IsSome (soa_of e)

abbrev pub IsProved : Record RData → Type 0
IsProved r = r.proof ≡ Secure

-- What AD of a reply tells (RFC 4035 section 3.2.3): the server judges proofs; AD or DO was asked for (RFC 6840
-- sections 5.7 and 5.8); there is something to judge; each answer is proved, and with a negative answer each authority.
pub record IsAuthenticated (request : MessageRequest) (validates : Bool) (result : Result AuthLookup LookupError) (contents : Contents) : Type 0 where
  pub validates_proofs : validates ≡ true
  pub asked : (request.metadata.authentic_data || asks_for_dnssec request.edns) ≡ true
  pub judged : HasJudgedRecords result
  pub answers : AllByRecursion IsProved contents.answers
  pub authorities : OnErr result (AllByRecursion IsProved contents.authorities)

abbrev pub AuthenticWhereProved : Type 0
AuthenticWhereProved = (request : MessageRequest) (query : Query) (validates : Bool) (result : Result AuthLookup LookupError)
    → let contents = forwarded_contents request query validates result in
    contents.metadata.authentic_data ≡ true → IsAuthenticated request validates result contents

abbrev pub IsNotBogus : Record RData → Type 0
IsNotBogus r = r.proof ≢ Bogus

-- a negative answer with an SOA (RFC 2308 section 3)
abbrev pub HasSoa : Result AuthLookup LookupError → Type 0
HasSoa (Ok found) = ⊥
HasSoa (Err e) = IsSome (soa_of e)

-- But for ServFail, no answer with a wrong proof is passed on, nor with a negative answer and its SOA an authority, to
-- those who do not check for themselves, CD clear (RFC 4035 sections 3.2.2 and 5.5).
abbrev pub NothingBogusPassedOn : Type 0
NothingBogusPassedOn = (request : MessageRequest) (query : Query) (validates : Bool) (result : Result AuthLookup LookupError)
    → validates ≡ true → request.metadata.checking_disabled ≡ false
    → let contents = forwarded_contents request query validates result in
    contents.metadata.response_code ≢ code_serv_fail
    → AllByRecursion IsNotBogus contents.answers × (HasSoa result → AllByRecursion IsNotBogus contents.authorities)

-- not of a DNSSEC type, or of the very type that was asked for
abbrev pub IsPlainOrAskedFor : ℕ → Record RData → Type 0
IsPlainOrAskedFor query_type r = is_dnssec_type (type_of r.rdata) ≡ true → type_of r.rdata ≡ query_type

-- Without DO no section has a record of a DNSSEC type but the one that was asked for (RFC 4035 section 3.2.1).
abbrev pub DnssecRecordsOnDemand : Type 0
DnssecRecordsOnDemand = (request : MessageRequest) (query : Query) (validates : Bool) (result : Result AuthLookup LookupError)
    → asks_for_dnssec request.edns ≡ false
    → let contents = forwarded_contents request query validates result in
    AllByRecursion (IsPlainOrAskedFor query.query_type) contents.answers
    × AllByRecursion (IsPlainOrAskedFor query.query_type) contents.authorities
    × AllByRecursion (IsPlainOrAskedFor query.query_type) contents.additionals

-- the record is an SOA
abbrev pub IsSoa : Record RData → Type 0
IsSoa r = type_of r.rdata ≡ type_soa

-- An authority section begins with this SOA, where there is one, and has no other.
pub record CarriesSoa (soa : Option (Record RData)) (authorities : List (Record RData)) : Type 0 where
  pub others : List (Record RData)
  pub first : authorities ≡ option_to_list soa ++ others
  pub no_other : AllByRecursion (λ r. ¬ (IsSoa r)) others

-- To a client with RD, a negative answer is passed on with the SOA that came with it, TTL and all, and with no other;
-- where none came it has none (RFC 2308 sections 2.1 and 2.2). ServFail, for a wrong proof or any other failure, has no
-- SOA.
abbrev pub SoaOfNegativeAnswer : Type 0
SoaOfNegativeAnswer = (request : MessageRequest) (query : Query) (validates : Bool) (e : LookupError)
    → request.metadata.recursion_desired ≡ true → IfSome (soa_of e) IsSoa
    → let contents = forwarded_contents request query validates (Err e) in
    (contents.metadata.response_code ≢ code_serv_fail → CarriesSoa (soa_of e) contents.authorities)
    × (contents.metadata.response_code ≡ code_serv_fail → CarriesSoa None contents.authorities)
