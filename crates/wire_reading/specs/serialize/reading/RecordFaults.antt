-- The first fault of a record or a question that cannot be read (RFC 1035 sections 4.1.2 and 4.1.3).
use Rattle.std.specs.Prelude.{◌≡◌, ◌≢◌, ℕ, ◌+◌, ◌≤◌, ◌<◌, ◌^◌, List, [], ◌∷◌, length}
use Rattle.std.specs.List.{flat_map}
use Rattle.std.specs.Int.{w16, to_be_bytes}
use Rattle.wire_names.specs.serialize.layout.Bytes.{BytesAt}
use Rattle.wire_names.specs.rr.domain.DomainName.{DomainName}
use Rattle.wire_messages.specs.Numbers.{type_a, type_aaaa, type_cname, type_mx, type_ns, type_ptr, type_soa, type_tsig, type_txt}
use Rattle.wire_messages.specs.serialize.layout.NameLayout.{NameAt, NameFault}
use Rattle.wire_messages.specs.rr.RecordData.{character_string, type_of}
use Rattle.wire_messages.specs.serialize.layout.RecordLayout.{OctetsAt, DataRead}
use Rattle.wire_names.specs.declared.error.DecodeError.{DecodeError}
use Rattle.wire_names.specs.declared.error.DecodeError.TheVariants.{InsufficientBytes, IncorrectDataLength}
use Rattle.wire_messages.specs.declared.rr.rdata.RData.{RData}
use Rattle.wire_messages.specs.declared.rr.rdata.RData.TheVariants as rdata

-- Data whose form says itself where they end: addresses, names, MX, SOA and TSIG. Of the others the data length alone
-- says it.
abbrev pub EndsItself : RData → Type 0
EndsItself (rdata.A address) = Unit {0}
EndsItself (rdata.AAAA address) = Unit {0}
EndsItself (rdata.NS name) = Unit {0}
EndsItself (rdata.CNAME name) = Unit {0}
EndsItself (rdata.PTR name) = Unit {0}
EndsItself (rdata.MX mx) = Unit {0}
EndsItself (rdata.SOA soa) = Unit {0}
EndsItself (rdata.TSIG signature) = Unit {0}
EndsItself (rdata.TXT strings) = ⊥
EndsItself (rdata.OPT options) = ⊥
EndsItself (rdata.NULL octets) = ⊥
EndsItself (rdata.Update0 code) = ⊥
EndsItself (rdata.Unknown code octets) = ⊥

-- The next string of a TXT record at place, behind the strings that stand there from start on: its length octet, n,
-- lies before stop, where the data end (RFC 1035 section 3.3.14).
pub record StringBegins (bytes : List ℕ) (start stop place n : ℕ) : Type 0 where
  pub strings : List (List ℕ)
  pub stand : OctetsAt 0 bytes start (flat_map character_string strings) place
  pub inside : place < stop
  pub size : BytesAt bytes place (n ∷ [])

-- Two octets at place are this number, the higher one first.
pub record NumberAt (bytes : List ℕ) (place n : ℕ) : Type 0 where
  pub stands : BytesAt bytes place (to_be_bytes w16 n)
  pub small : n < 2 ^ 16

-- The first fault of MX data: the message ends before the two octets of the preference, or the exchange has a fault
-- (RFC 1035 section 3.3.9).
pub data MxFault (bytes : List ℕ) (place : ℕ) : DecodeError → Type 0 where
  preference_missing : length bytes < place + 2 → MxFault bytes place InsufficientBytes
  exchange_faulty : {e : DecodeError} → place + 2 ≤ length bytes → NameFault bytes (place + 2) e → MxFault bytes place e

-- The first fault of SOA data: one of the two names has a fault, or the message ends before the five numbers of four
-- octets (RFC 1035 section 3.3.13).
pub data SoaFault (bytes : List ℕ) (place : ℕ) : DecodeError → Type 0 where
  mname_faulty : {e : DecodeError} → NameFault bytes place e → SoaFault bytes place e
  rname_faulty : {e : DecodeError} {mname : DomainName} {one : ℕ} → NameAt 0 bytes place mname one
      → NameFault bytes one e → SoaFault bytes place e
  numbers_missing : {mname rname : DomainName} {one two : ℕ} → NameAt 0 bytes place mname one
      → NameAt 0 bytes one rname two → length bytes < two + 20 → SoaFault bytes place InsufficientBytes

-- The first fault of TXT data that end before stop: a string reaches past the end of the message, or past that of the
-- data (RFC 1035 section 3.3.14).
pub data TxtFault (bytes : List ℕ) (place stop : ℕ) : DecodeError → Type 0 where
  string_missing : {middle n : ℕ} → StringBegins bytes place stop middle n → length bytes < middle + 1 + n
      → TxtFault bytes place stop InsufficientBytes
  string_too_long : {middle n : ℕ} → StringBegins bytes place stop middle n → middle + 1 + n ≤ length bytes
      → stop < middle + 1 + n → TxtFault bytes place stop IncorrectDataLength

-- The first fault of TSIG data: the algorithm's name has a fault; or the message ends before the MAC size, which stands
-- behind the six octets of the time and the two of the fudge; or before the other length, which stands behind the MAC
-- and two octets each of original id and error; or before the end of the other data (RFC 8945 section 4.2).
pub data TsigFault (bytes : List ℕ) (place : ℕ) : DecodeError → Type 0 where
  algorithm_faulty : {e : DecodeError} → NameFault bytes place e → TsigFault bytes place e
  mac_size_missing : {algorithm : DomainName} {middle : ℕ} → NameAt 0 bytes place algorithm middle
      → length bytes < middle + 10 → TsigFault bytes place InsufficientBytes
  other_len_missing : {algorithm : DomainName} {middle mac : ℕ} → NameAt 0 bytes place algorithm middle
      → NumberAt bytes (middle + 8) mac → length bytes < middle + 10 + mac + 6 → TsigFault bytes place InsufficientBytes
  other_missing : {algorithm : DomainName} {middle mac other : ℕ} → NameAt 0 bytes place algorithm middle
      → NumberAt bytes (middle + 8) mac → NumberAt bytes (middle + 10 + mac + 4) other
      → length bytes < middle + 10 + mac + 6 + other → TsigFault bytes place InsufficientBytes

-- The first fault of data of len octets, at least one, by their type. OPT, NULL and types without a form have none.
pub data DataFormFault (bytes : List ℕ) (place len : ℕ) : ℕ → DecodeError → Type 0 where
  -- A: the message ends before the four octets of the address (RFC 1035 section 3.4.1)
  ipv4_missing : length bytes < place + 4 → DataFormFault bytes place len type_a InsufficientBytes
  -- AAAA: the message ends before the sixteen octets of the address (RFC 3596 section 2.2)
  ipv6_missing : length bytes < place + 16 → DataFormFault bytes place len type_aaaa InsufficientBytes
  -- NS, CNAME and PTR: the name has a fault (RFC 1035 sections 3.3.11, 3.3.1 and 3.3.12)
  ns_faulty : {e : DecodeError} → NameFault bytes place e → DataFormFault bytes place len type_ns e
  cname_faulty : {e : DecodeError} → NameFault bytes place e → DataFormFault bytes place len type_cname e
  ptr_faulty : {e : DecodeError} → NameFault bytes place e → DataFormFault bytes place len type_ptr e
  -- MX, SOA, TXT and TSIG
  mx_faulty : {e : DecodeError} → MxFault bytes place e → DataFormFault bytes place len type_mx e
  soa_faulty : {e : DecodeError} → SoaFault bytes place e → DataFormFault bytes place len type_soa e
  txt_faulty : {e : DecodeError} → TxtFault bytes place (place + len) e → DataFormFault bytes place len type_txt e
  tsig_faulty : {e : DecodeError} → TsigFault bytes place e → DataFormFault bytes place len type_tsig e
  -- data that say themselves where they end, end elsewhere than their length says
  ends_elsewhere : {next : ℕ} (content : RData) → EndsItself content → DataRead bytes place content next
      → next ≢ place + len → DataFormFault bytes place len (type_of content) IncorrectDataLength

-- The first fault of data of len octets that lie within the message, by their type. Without an octet a TSIG has no
-- form; other data are then those of an update, or an OPT without options.
pub data DataFault (bytes : List ℕ) (place len : ℕ) : ℕ → DecodeError → Type 0 where
  no_octets : len ≡ 0 → DataFault bytes place len type_tsig IncorrectDataLength
  form_faulty : {kind : ℕ} {e : DecodeError} → 0 < len → DataFormFault bytes place len kind e
      → DataFault bytes place len kind e

-- The first fault of a record at place, whose ten octets of type, class, TTL and data length stand behind its owner
-- name: that of the owner name; the message ends before those octets, or before the end of the data; or that of the
-- data.
pub data RecordFault (bytes : List ℕ) (place : ℕ) : DecodeError → Type 0 where
  owner_faulty : {e : DecodeError} → NameFault bytes place e → RecordFault bytes place e
  fields_missing : {owner : DomainName} {middle : ℕ} → NameAt 0 bytes place owner middle
      → length bytes < middle + 10 → RecordFault bytes place InsufficientBytes
  data_missing : {owner : DomainName} {middle len : ℕ} → NameAt 0 bytes place owner middle
      → NumberAt bytes (middle + 8) len → length bytes < middle + 10 + len → RecordFault bytes place InsufficientBytes
  data_faulty : {e : DecodeError} {owner : DomainName} {middle kind len : ℕ} → NameAt 0 bytes place owner middle
      → NumberAt bytes middle kind → NumberAt bytes (middle + 8) len → middle + 10 + len ≤ length bytes
      → DataFault bytes (middle + 10) len kind e → RecordFault bytes place e

-- The first fault of a question at place: that of its name, or the message ends before its type and its class.
pub data QuestionFault (bytes : List ℕ) (place : ℕ) : DecodeError → Type 0 where
  name_faulty : {e : DecodeError} → NameFault bytes place e → QuestionFault bytes place e
  type_missing : {name : DomainName} {middle : ℕ} → NameAt 0 bytes place name middle
      → length bytes < middle + 4 → QuestionFault bytes place InsufficientBytes
