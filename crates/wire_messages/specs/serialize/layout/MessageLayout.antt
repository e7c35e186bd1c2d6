-- How a message stands in bytes: its header, its sections one behind the other, and what each section may hold (RFC
-- 1035 section 4.1).
use Rattle.std.specs.Prelude.{◌≡◌, ℕ, ◌+◌, ◌*◌, ◌/◌, ◌%◌, ◌^◌, List, [], ◌∷◌, ◌++◌, Bool, false, not, ◌||◌, filter, map, Option, Some, None, option_to_list, ◌==◌}
use Rattle.wire_messages.specs.Numbers.{type_opt, type_sig, type_tsig}
use Rattle.wire_messages.specs.op.EdnsFields.{EdnsFields}
use Rattle.wire_messages.specs.serialize.layout.QuestionLayout.{QuestionAt, IsFormedQuestion}
use Rattle.wire_messages.specs.rr.RecordData.{type_of}
use Rattle.wire_messages.specs.declared.op.edns.EdnsOption.{EdnsOption}
use Rattle.wire_messages.specs.declared.op.header.Metadata.{Metadata}
use Rattle.wire_messages.specs.declared.op.query.Query.{Query}
use Rattle.wire_messages.specs.declared.rr.rdata.RData.{RData}
use Rattle.wire_messages.specs.declared.rr.rdata.RData.TheVariants as rdata
use Rattle.wire_messages.specs.declared.rr.record.Record.{Record}
use Rattle.wire_messages.specs.declared.rr.tsig.TSIG.{TSIG}

-- Items stand one behind the other from place on, and next is the place behind the last.
abbrev pub ItemsAt : {A : Type 0} → (ℕ → A → ℕ → Type 0) → ℕ → List A → ℕ → Type 0
ItemsAt at place [] next = next ≡ place
ItemsAt at place (x ∷ xs) next = (middle : ℕ) × at place x middle × ItemsAt at middle xs next

-- A question as it is read.
pub record QuestionRead (bytes : List ℕ) (place : ℕ) (query : Query) (next : ℕ) : Type 0 where
  pub stands : QuestionAt 0 bytes place query next
  pub formed : IsFormedQuestion query

-- the types OPT, TSIG and SIG: OPT and TSIG belong in the additional section alone (RFC 6891 section 6.1.1, RFC 8945
-- section 5.2), and so does SIG(0) (RFC 2931 section 3.1), for which every SIG is taken here
abbrev pub is_for_additionals_alone : ℕ → Bool
is_for_additionals_alone kind = kind == type_opt || kind == type_tsig || kind == type_sig

-- no OPT, TSIG or SIG
abbrev pub IsPlainRecord : Record RData → Type 0
IsPlainRecord r = is_for_additionals_alone (type_of r.rdata) ≡ false

-- whether a record is an OPT, and whether it is a TSIG
abbrev pub is_opt : Record RData → Bool
is_opt r = type_of r.rdata == type_opt

abbrev pub is_tsig : Record RData → Bool
is_tsig r = type_of r.rdata == type_tsig

-- what an OPT record of this class, this TTL and these options says (RFC 6891 sections 6.1.2 and 6.1.3)
abbrev pub edns_said : ℕ → ℕ → List EdnsOption → EdnsFields
edns_said class ttl options = record {
  max_payload = class;
  rcode_high = ttl / 2 ^ 24;
  version = ttl / 2 ^ 16 % 256;
  dnssec_ok = ttl / 2 ^ 15 % 2 == 1;
  reserved_flags = ttl % 2 ^ 15;
  options = options;
}

-- what the OPT record of these options says
abbrev pub edns_of : Record RData → List EdnsOption → EdnsFields
edns_of r options = edns_said r.dns_class r.ttl options

-- An OPT record at the root that says this (RFC 6891 sections 6.1.2 and 6.1.3).
pub record SaysEdns (r : Record RData) (edns : EdnsFields) : Type 0 where
  pub root : r.name.labels ≡ []
  pub rdata : r.rdata ≡ rdata.OPT edns.options
  pub says : edns ≡ edns_of r edns.options

-- The OPT records of a section, at most one, and what it says.
abbrev pub HasEdns : List (Record RData) → Option EdnsFields → Type 0
HasEdns [] edns = edns ≡ None
HasEdns (r ∷ []) edns = (fields : EdnsFields) × SaysEdns r fields × (edns ≡ Some fields)
HasEdns (r ∷ q ∷ others) edns = ⊥

-- a TSIG record among records of any data
abbrev pub tsig_record : Record TSIG → Record RData
tsig_record r = record { name = r.name; dns_class = r.dns_class; ttl = r.ttl; rdata = rdata.TSIG r.rdata; proof = r.proof }

-- The records of an additional section, in their order: a TSIG, if there is one, is the last (RFC 8945 section 5.2);
-- before it there is at most one OPT (RFC 6891 section 6.1.1), at the root (section 6.1.2); the others are its records.
pub record AdditionalSection (all records : List (Record RData)) (edns : Option EdnsFields) (signature : Option (Record TSIG)) : Type 0 where
  pub unsigned : List (Record RData)
  pub opts : List (Record RData)
  pub signature_last : all ≡ unsigned ++ map tsig_record (option_to_list signature)
  pub one_signature : filter is_tsig unsigned ≡ []
  pub opt_records : filter is_opt unsigned ≡ opts
  pub others : records ≡ filter (λ r. not (is_opt r)) unsigned
  pub one_opt : HasEdns opts edns

-- the high eight bits of the response code, which the OPT record has (RFC 6891 section 6.1.3)
abbrev pub high_code : Option EdnsFields → ℕ
high_code None = 0
high_code (Some edns) = edns.rcode_high

-- with the response code of twelve bits, whose low four the header has (RFC 6891 section 6.1.3)
abbrev pub with_high_code : Metadata → ℕ → Metadata
with_high_code m high = record m { response_code = 16 * high + m.response_code }
