-- Replies of a server that asked elsewhere.
use Rattle.std.specs.Prelude.{◌==◌, nat_eq, ◌&&◌, ◌||◌, not, ℕ, Bool, true, false, cond, List, [], ◌∷◌, ◌++◌, filter, Option, Some, None, option_to_list, Result, Ok, Err}
use Rattle.std.specs.List.{list_all, list_any}
use Rattle.std.specs.Option.{unwrap_or}
use Rattle.wire_names.specs.rr.domain.DomainName.{DomainName}
use Rattle.wire_messages.specs.Numbers.{code_no_error, code_nx_domain, code_refused, code_serv_fail, type_cdnskey, type_cds, type_dnskey, type_ds, type_key, type_nsec, type_nsec3, type_nsec3param, type_rrsig, type_sig, type_soa}
use Rattle.wire_messages.specs.op.Metadata.{response_to}
use Rattle.wire_names.specs.rr.domain.NameOrder.{name_eq}
use Rattle.wire_messages.specs.rr.RecordData.{type_of}
use Rattle.wire_messages.specs.declared.op.header.Metadata.{Metadata}
use Rattle.wire_messages.specs.declared.op.query.Query.{Query}
use Rattle.wire_messages.specs.declared.rr.rdata.RData.{RData}
use Rattle.wire_messages.specs.declared.rr.record.Proof.{Proof}
use Rattle.wire_messages.specs.declared.rr.record.Proof.TheVariants.{Secure, Bogus}
use Rattle.wire_messages.specs.declared.rr.record.Record.{Record}
use Rattle.hickory_base.specs.Failures.{authorities_of, is_no_records_found, is_nx_domain, soa_of}
use Rattle.hickory_base.specs.zone_store.Lookups.{answers_of, asks_for_dnssec}
use Rattle.hickory_base.specs.declared.errors.DnsError.TheVariants.{DnssecBogus}
use Rattle.hickory_base.specs.declared.errors.LookupError.{LookupError}
use Rattle.hickory_base.specs.declared.errors.LookupError.TheVariants.{Net}
use Rattle.hickory_base.specs.declared.requests.message_request.MessageRequest.{MessageRequest}
use Rattle.hickory_base.specs.declared.zone_store.lookup.AuthLookup.{AuthLookup}
use Rattle.hickory_base.specs.declared.zone_store.lookup.AuthLookup.TheVariants.{Resolved}
use Rattle.hickory_catalog.specs.declared.forwarded.Findings.{Findings as KeptFindings}
use Rattle.hickory_catalog.specs.replies.Replies.{Contents, bare_contents}

-- What a server that asked elsewhere was told, as far as it is passed on: a response code, the records of the sections,
-- the SOA of a negative answer (RFC 2308 sections 2.1 and 2.2), and whether the proof is known to be wrong, whatever
-- the records say.
pub record Findings : Type 0 where
  pub code : ℕ
  pub answers : List (Record RData)
  pub authorities : List (Record RData)
  pub soa : Option (Record RData)
  pub additionals : List (Record RData)
  pub is_bogus : Bool

-- the findings, by what the program keeps of them
abbrev pub seen_findings : KeptFindings → Findings
seen_findings kept = record { code = kept.code; answers = kept.answers; authorities = kept.authorities; soa = kept.soa; additionals = kept.additionals; is_bogus = kept.is_bogus }

-- a response code alone
abbrev pub code_alone : ℕ → Bool → Findings
code_alone code is_bogus = record { code = code; answers = []; authorities = []; soa = None; additionals = []; is_bogus = is_bogus }

abbrev pub records_found : AuthLookup → Findings
records_found (Resolved found) = record (code_alone code_no_error false) { answers = found.answers; authorities = found.authorities; additionals = found.additionals }
records_found other = record (code_alone code_no_error false) { answers = answers_of other }

-- a record of the name, in any letter case
abbrev pub is_named : DomainName → Record RData → Bool
is_named name r = name_eq r.name name

abbrev pub has_name : DomainName → List (Record RData) → Bool
has_name name records = list_any (is_named name) records

-- any record but an SOA
abbrev pub is_no_soa : Record RData → Bool
is_no_soa r = not (type_of r.rdata == type_soa)

-- the code of a negative answer: a record of the name shows that the name exists, so that it is NoError and not
-- NXDomain
abbrev pub forwarded_code : DomainName → LookupError → ℕ
forwarded_code name e = cond (has_name name (unwrap_or (authorities_of e) [])) code_no_error (cond (is_nx_domain e) code_nx_domain code_no_error)

-- A negative answer (RFC 2308 sections 2.1 and 2.2): its authorities without SOA records, and the SOA that belongs to
-- it.
abbrev pub nothing_found : DomainName → LookupError → Findings
nothing_found name e = record (code_alone (forwarded_code name e) false) { authorities = filter is_no_soa (unwrap_or (authorities_of e) []); soa = soa_of e }

abbrev pub is_dnssec_bogus : LookupError → Bool
is_dnssec_bogus (Net DnssecBogus) = true
is_dnssec_bogus other = false

-- what there is to pass on for an answer; an error that is no negative answer is ServFail
abbrev pub findings_of : DomainName → Result AuthLookup LookupError → Findings
findings_of name (Ok found) = records_found found
findings_of name (Err e) = cond (is_no_records_found e || is_nx_domain e) (nothing_found name e) (code_alone code_serv_fail (is_dnssec_bogus e))

-- The records by whose proofs the whole is judged: the answers, or with a kept SOA that SOA and the authorities. RFC
-- 4035 section 3.2.3 would judge the authorities beside answers too.
abbrev pub judged_records : Findings → List (Record RData)
judged_records found = judged found.soa where
  judged : Option (Record RData) → List (Record RData)
  judged None = found.answers
  judged (Some soa) = soa ∷ found.authorities

abbrev pub is_bogus_proof : Proof → Bool
is_bogus_proof Bogus = true
is_bogus_proof other = false

abbrev pub is_secure_proof : Proof → Bool
is_secure_proof Secure = true
is_secure_proof other = false

-- the proof of some record is wrong
abbrev pub is_bogus : Findings → Bool
is_bogus found = found.is_bogus || list_any (λ r. is_bogus_proof r.proof) (judged_records found)

abbrev pub is_no_record : List (Record RData) → Bool
is_no_record [] = true
is_no_record (r ∷ rs) = false

-- there are records, and all are proved
abbrev pub is_secure : Findings → Bool
is_secure found = not (is_bogus found) && not (is_no_record (judged_records found)) && list_all (λ r. is_secure_proof r.proof) (judged_records found)

-- What is passed on of a bogus answer: ServFail. The answers are dropped, or where an SOA was kept that SOA;
-- authorities and additionals stay. RFC 4035 section 5.5 would pass on no records.
abbrev pub without_bogus : Findings → Findings
without_bogus found = dropped found.soa where
  dropped : Option (Record RData) → Findings
  dropped None = record found { code = code_serv_fail; answers = [] }
  dropped (Some soa) = record found { code = code_serv_fail; soa = None }

-- What is passed on where the handler validates: with CD (checking disabled) set, a bogus answer too (RFC 4035 section
-- 3.2.2).
abbrev pub validated : Bool → Metadata → Findings → Findings
validated validates request found = cond (validates && is_bogus found && not request.checking_disabled) (without_bogus found) found

-- AD tells of a proved answer whoever asks by AD or DO (RFC 6840 sections 5.7 and 5.8).
abbrev pub is_authentic : Bool → MessageRequest → Findings → Bool
is_authentic validates request found = validates && is_secure found && (request.metadata.authentic_data || asks_for_dnssec request.edns)

-- the types of DNSSEC (RFC 2535, RFC 4034, RFC 5155, RFC 7344)
abbrev pub is_dnssec_type : ℕ → Bool
is_dnssec_type n = list_any (nat_eq n) (type_sig ∷ type_key ∷ type_ds ∷ type_rrsig ∷ type_nsec ∷ type_dnskey ∷ type_nsec3 ∷ type_nsec3param ∷ type_cds ∷ type_cdnskey ∷ [])

-- With DO every record is passed on; without it all but those of a DNSSEC type, unless that very type was asked for
-- (RFC 4035 section 3.2.1).
abbrev pub is_passed_on : Bool → ℕ → Record RData → Bool
is_passed_on dnssec_ok query_type r = dnssec_ok || not (is_dnssec_type (type_of r.rdata)) || type_of r.rdata == query_type

abbrev pub passed_on : MessageRequest → Query → List (Record RData) → List (Record RData)
passed_on request query records = filter (is_passed_on (asks_for_dnssec request.edns) query.query_type) records

-- a reply with RA, with AD or without it, and this response code (RFC 1035 section 4.1.1, RFC 4035 section 3.2.3)
abbrev pub forwarded_metadata : Metadata → Bool → ℕ → Metadata
forwarded_metadata request authentic code = record (response_to request) { recursion_available = true; authentic_data = authentic; response_code = code }

-- what the reply says with what is passed on; the SOA of a negative answer stands before the other authorities
abbrev pub findings_contents : MessageRequest → Query → Bool → Findings → Contents
findings_contents request query authentic found = record {
  metadata = forwarded_metadata request.metadata authentic found.code;
  answers = passed_on request query found.answers;
  authorities = passed_on request query (option_to_list found.soa) ++ passed_on request query found.authorities;
  additionals = passed_on request query found.additionals;
}

-- What a handler that asks elsewhere replies to what the chain answered in the end. A client that does not want
-- recursion, RD clear, is refused as in the Rust crate. RFC 1034 section 4.3.1 would answer it from what is known here.
abbrev pub forwarded_contents : MessageRequest → Query → Bool → Result AuthLookup LookupError → Contents
forwarded_contents request query validates result = cond request.metadata.recursion_desired
    (findings_contents request query (is_authentic validates request (findings_of query.name result)) (validated validates request.metadata (findings_of query.name result)))
    (bare_contents (forwarded_metadata request.metadata false code_refused))
