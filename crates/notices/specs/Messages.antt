-- The octets of a notice that a zone has changed, and which messages answer it (RFC 1996).
use Rattle.std.specs.Prelude.{◌≡◌, ◌<◌, ◌==◌, ◌&&◌, ◌^◌, ℕ, Bool, true, false, nat_lt, nat_le, if◌then◌else◌, List, [], ◌∷◌, ◌++◌, length, None, IsTrue}
use Rattle.wire_names.specs.rr.domain.DomainName.{AreLabels, DomainName}
use Rattle.wire_names.specs.rr.domain.NameOrder.{SameName, name_eq}
use Rattle.wire_messages.specs.Numbers.{class_in, opcode_notify, type_soa}
use Rattle.wire_messages.specs.op.Metadata.{bare_metadata}
use Rattle.wire_messages.specs.serialize.layout.HeaderLayout.{header_octets, is_response}
use Rattle.wire_messages.specs.serialize.layout.FieldRanges.{IsInRange}
use Rattle.wire_messages.specs.serialize.layout.NameLayout.{IsFullyQualified}
use Rattle.wire_messages.specs.serialize.writing.FullForm.{record_octets}
use Rattle.wire_messages.specs.serialize.writing.QuestionForm.{question_octets}
use Rattle.wire_messages.specs.declared.op.header.Header.{Header}
use Rattle.wire_messages.specs.declared.op.header.Metadata.{Metadata}
use Rattle.wire_messages.specs.declared.op.header.MessageType.TheVariants.{Query as query, Response}
use Rattle.wire_messages.specs.declared.op.query.Query.{Query}
use Rattle.wire_messages.specs.declared.rr.rdata.RData.{RData}
use Rattle.wire_messages.specs.declared.rr.rdata.RData.TheVariants as rdata
use Rattle.wire_messages.specs.declared.rr.rdata.SOA.{SOA}
use Rattle.wire_messages.specs.declared.rr.record.Proof.TheVariants.{Indeterminate}
use Rattle.wire_messages.specs.declared.rr.record.Record.{Record}
use Rattle.wire_reading.specs.declared.op.message.Message.{Message}
use Rattle.notices.specs.declared.notice.Notice.{Notice}
use Rattle.notices.specs.declared.notice.Target.{Target}
use Rattle.notices.specs.contracts.notice.TargetPartialEq.TheImpl as by_target

-- a NOTIFY asks, with AA and no other flag (RFC 1996 sections 3.2, 3.3 and 4.5)
abbrev pub notice_metadata : ℕ → Metadata
notice_metadata id = record (bare_metadata id query opcode_notify) { authoritative = true }

-- one question, and so many records in the answer section (RFC 1996 section 3.7)
abbrev pub notice_header : ℕ → ℕ → Header
notice_header id answers = record { metadata = notice_metadata id; counts = record { queries = 1; answers = answers; authorities = 0; additionals = 0 } }

-- the question is the zone's SOA (RFC 1996 section 4.5)
abbrev pub question_of : DomainName → Query
question_of zone = record { name = zone; query_type = type_soa; query_class = class_in }

-- the new SOA record of the zone (RFC 1996 section 3.7)
abbrev pub soa_record : DomainName → ℕ → SOA → Record RData
soa_record zone ttl soa = record { name = zone; dns_class = class_in; ttl = ttl; rdata = rdata.SOA soa; proof = Indeterminate }

-- a notice without the SOA record: the header, and the question with its name in full
abbrev pub bare_octets : ℕ → DomainName → ℕ → List ℕ
bare_octets id zone answers = header_octets (notice_header id answers) ++ question_octets (question_of zone)

-- a notice with the SOA record, each name in full
abbrev pub full_octets : ℕ → DomainName → ℕ → SOA → List ℕ
full_octets id zone ttl soa = bare_octets id zone 1 ++ record_octets (soa_record zone ttl soa)

-- A notice has the SOA record if it is then no longer than UDP allows (RFC 1035 section 4.2.1).
abbrev pub has_soa : ℕ → DomainName → ℕ → SOA → Bool
has_soa id zone ttl soa = nat_le (length (full_octets id zone ttl soa)) 512

-- a notice of this id as it is sent; the SOA record is a hint, which may be left out (RFC 1996 section 3.7)
abbrev pub notice_octets : ℕ → DomainName → ℕ → SOA → List ℕ
notice_octets id zone ttl soa = if has_soa id zone ttl soa then full_octets id zone ttl soa else bare_octets id zone 0

-- the message that a notice of this id is
abbrev pub notice_message : ℕ → DomainName → ℕ → SOA → Message
notice_message id zone ttl soa = record {
  metadata = notice_metadata id;
  queries = question_of zone ∷ [];
  answers = if has_soa id zone ttl soa then soa_record zone ttl soa ∷ [] else [];
  authorities = [];
  additionals = [];
  edns = None;
  signature = None;
}

-- the same address and port
abbrev pub same_target : Target → Target → Bool
same_target a b = by_target.ghosts.eq a b

-- Whether questions are the one of the zone, letter case aside (RFC 1996 sections 3.6 and 4.7). An answer of an error may leave
-- the question out, as some servers do.
abbrev pub asks_of : DomainName → ℕ → List Query → Bool
asks_of zone code [] = nat_lt 0 code
asks_of zone code (q ∷ []) = name_eq q.name zone && q.query_type == type_soa && q.query_class == class_in
asks_of zone code (q ∷ r ∷ rest) = false

-- whether a message that came from an address and port answers a notice: the notice was sent there, and the message has
-- its id, QR, the opcode NOTIFY and its question (RFC 1996 sections 3.3 and 3.6)
abbrev pub is_answered : Target → Message → Notice → Bool
is_answered from m n =
    nat_lt 0 n.sent && same_target n.target from && m.metadata.id == n.id && is_response m.metadata.message_type && m.metadata.op_code == opcode_notify
    && asks_of n.zone m.metadata.response_code m.queries

-- The questions are the one of the zone, or there are none and the code is an error.
abbrev pub AsksOf : DomainName → ℕ → List Query → Type 0
AsksOf zone code [] = 0 < code
AsksOf zone code (q ∷ []) = SameName q.name zone × (q.query_type ≡ type_soa) × (q.query_class ≡ class_in)
AsksOf zone code (q ∷ r ∷ rest) = ⊥

-- The message answers the notice.
pub record IsAnswer (from : Target) (m : Message) (n : Notice) : Type 0 where
  pub sent : 0 < n.sent
  pub target : IsTrue (same_target n.target from)
  pub id : m.metadata.id ≡ n.id
  pub response : m.metadata.message_type ≡ Response
  pub kind : m.metadata.op_code ≡ opcode_notify
  pub question : AsksOf n.zone m.metadata.response_code m.queries

-- The numbers and names of a notice are such as its fields hold, and its names are fully qualified.
pub record HasForm (id : ℕ) (zone : DomainName) (ttl : ℕ) (soa : SOA) : Type 0 where
  pub id_fits : id < 2 ^ 16
  pub ttl_fits : ttl < 2 ^ 32
  pub numbers : IsInRange (rdata.SOA soa)
  pub apex : AreLabels zone.labels × IsFullyQualified zone
  pub mname : AreLabels soa.mname.labels × IsFullyQualified soa.mname
  pub rname : AreLabels soa.rname.labels × IsFullyQualified soa.rname
