-- Which denials go with an authoritative reply.
use Rattle.std.specs.Prelude.{◌≡◌, ◌==◌, nat_lt, ℕ, Bool, true, false, cond, List, [], slice_get, Option, Some, None, Ok}
use Rattle.std.specs.Bool.{MatchBool}
use Rattle.std.specs.List.{list_any}
use Rattle.wire_names.specs.rr.domain.NameOrder.{counted_labels, lower_name}
use Rattle.wire_messages.specs.Numbers.{type_rrsig}
use Rattle.wire_messages.specs.declared.op.query.Query.{Query}
use Rattle.wire_messages.specs.declared.rr.rdata.RData.{RData}
use Rattle.wire_messages.specs.declared.rr.rdata.RData.TheVariants.{Unknown}
use Rattle.wire_messages.specs.declared.rr.record.Record.{Record}
use Rattle.hickory_base.specs.zone_store.Lookups.{Flow, answers_of}
use Rattle.hickory_base.specs.declared.zone_store.handler.NxProofKind.{NxProofKind}
use Rattle.hickory_base.specs.declared.zone_store.handler.NxProofKind.TheVariants.{Nsec, Nsec3}
use Rattle.hickory_base.specs.declared.zone_store.handler.ZoneHandler.{Ghosts}
use Rattle.hickory_base.specs.declared.zone_store.lookup.LookupControlFlow.TheVariants.{Continue, Break, Skip}
use Rattle.hickory_base.specs.declared.zone_store.lookup.LookupOptions.{LookupOptions}

-- the records of a handler's answer, none where it is an error or a `Skip`
abbrev pub records_given : Flow → List (Record RData)
records_given (Continue (Ok found)) = answers_of found
records_given (Break (Ok found)) = answers_of found
records_given other = []

-- The labels field of a signature record, which is the fourth octet of the data of an RRSIG (RFC 4034 section 3.1.3):
-- how many labels the owner name has in the zone, the `*` of a wildcard not counted.
abbrev pub signed_labels : RData → Option ℕ
signed_labels (Unknown code octets) = cond (code == type_rrsig) (slice_get octets 3) None
signed_labels other = None

-- The record is a signature of records that come of a wildcard: its owner name has more labels than were signed (RFC
-- 4035 section 5.3.4).
abbrev pub is_expanded : Record RData → Bool
is_expanded r = fewer (signed_labels r.rdata) where
  fewer : Option ℕ → Bool
  fewer None = false
  fewer (Some labels) = nat_lt labels (counted_labels r.name.labels)

-- the records come of a wildcard
abbrev pub is_wildcard_match : List (Record RData) → Bool
is_wildcard_match records = list_any is_expanded records

-- Beside records that were found a denial is asked for in a zone with NSEC where they come of a wildcard (RFC 4035
-- section 3.1.3.3), and in one with NSEC3 always: the handler is told whether they do (RFC 5155 section 7.2.6). DO is
-- not looked at here; it is in the options.
abbrev pub needs_denial : Option NxProofKind → Bool → Bool
needs_denial None from_wildcard = false
needs_denial (Some Nsec) from_wildcard = from_wildcard
needs_denial (Some (Nsec3 algorithm salt iterations opt_out)) from_wildcard = true

-- What a denial is asked for: the question, whether the records that it goes with come of a wildcard, and the options
-- of the request.
pub record DenialQuestion : Type 0 where
  pub query : Query
  pub from_wildcard : Bool
  pub options : LookupOptions

-- What a handler gives as a denial, by what it can deny with (RFC 4035 section 3.1.3, RFC 5155 section 7.2): nothing is
-- asked of one that cannot.
abbrev pub DenialGiven : {H : Type 0} → Ghosts H → H → DenialQuestion → Option NxProofKind → Flow → Type 0
DenialGiven handler h asked None given = given ≡ Skip
DenialGiven handler h asked (Some Nsec) given = handler.nsec_gives h (lower_name asked.query.name) asked.options given
DenialGiven handler h asked (Some (Nsec3 algorithm salt iterations opt_out)) given = handler.nsec3_gives h (record {
  qname = lower_name asked.query.name;
  qtype = asked.query.query_type;
  has_wildcard_match = asked.from_wildcard;
  algorithm = algorithm;
  salt = salt;
  iterations = iterations;
}) asked.options given

-- the denial beside an answer; nothing is asked where none is wanted
abbrev pub DenialBesideAnswer : {H : Type 0} → Ghosts H → H → Query → Bool → LookupOptions → Flow → Type 0
DenialBesideAnswer handler h query from_wildcard options given = MatchBool (needs_denial (handler.nx_proof_kind_of h) from_wildcard)
    (DenialGiven handler h (record { query = query; from_wildcard = from_wildcard; options = options }) (handler.nx_proof_kind_of h) given) (given ≡ Skip)

-- the denial in the place of an answer; nothing is asked where the client takes no DNSSEC records
abbrev pub DenialOfNegative : {H : Type 0} → Ghosts H → H → Query → LookupOptions → Flow → Type 0
DenialOfNegative handler h query options given = MatchBool options.dnssec_ok
    (DenialGiven handler h (record { query = query; from_wildcard = false; options = options }) (handler.nx_proof_kind_of h) given) (given ≡ Skip)
