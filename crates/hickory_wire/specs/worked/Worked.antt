-- Worked examples: bytes written out by hand from the RFCs, and the values that stand in them.
use Rattle.std.specs.Prelude.{◌≡◌, ℕ, List, [], ◌∷◌, ◌++◌, true, false, replicate, Option, Some, None, Ok, Err, codes}
use Rattle.wire_messages.specs.rr.Addresses.{ipv4_of}
use Rattle.wire_messages.specs.serialize.reading.Cursor.{Cursor}
use Rattle.wire_names.specs.rr.domain.DomainName.{DomainName}
use Rattle.wire_messages.specs.op.EdnsFields.{EdnsFields}
use Rattle.wire_messages.specs.op.Metadata.{bare_metadata}
use Rattle.wire_messages.specs.serialize.reading.Reading.{Read}
use Rattle.wire_messages.specs.serialize.reading.SectionReading.{Additionals, no_additionals}
use Rattle.wire_messages.specs.declared.op.edns.EdnsOption.{EdnsOption}
use Rattle.wire_names.specs.declared.error.DecodeError.{DecodeError}
use Rattle.wire_messages.specs.declared.op.header.Header.{Header}
use Rattle.wire_messages.specs.declared.op.header.MessageType.TheVariants as message_type
use Rattle.wire_messages.specs.declared.op.header.Metadata.{Metadata}
use Rattle.wire_reading.specs.declared.op.message.Message.{Message}
use Rattle.wire_messages.specs.declared.op.query.Query.{Query}
use Rattle.wire_messages.specs.declared.rr.rdata.RData.{RData}
use Rattle.wire_messages.specs.declared.rr.rdata.RData.TheVariants as rdata
use Rattle.wire_messages.specs.declared.rr.record.Proof.TheVariants.{Indeterminate}
use Rattle.wire_messages.specs.declared.rr.record.Record.{Record}
use Rattle.wire_messages.specs.declared.rr.tsig.TSIG.{TSIG}

-- a place in bytes
abbrev pub at : List ℕ → ℕ → Cursor
at bytes place = record { bytes = bytes; place = place }

-- the value is read from place on, and next is the place behind it
abbrev pub ReadsAs : {A : Type 0} → (Cursor → Read A) → List ℕ → ℕ → A → ℕ → Type 0
ReadsAs read bytes place x next = read (at bytes place) ≡ Ok (x, at bytes next)

-- reading from place on meets this fault first
abbrev pub MeetsFault : {A : Type 0} → (Cursor → Read A) → List ℕ → ℕ → DecodeError → Type 0
MeetsFault read bytes place e = read (at bytes place) ≡ Err e

-- the fully qualified name of these labels
abbrev pub named : List (List ℕ) → DomainName
named labels = record { labels = labels; is_fqdn = true }

abbrev pub root : DomainName
root = named []

-- a.
abbrev pub a_name : DomainName
a_name = named (codes "a" ∷ [])

-- www.example.com.
abbrev pub www_name : DomainName
www_name = named (codes "www" ∷ codes "example" ∷ codes "com" ∷ [])

-- a record whose proof is not known
abbrev pub record_of : DomainName → ℕ → ℕ → RData → Record RData
record_of owner class ttl content = record { name = owner; dns_class = class; ttl = ttl; rdata = content; proof = Indeterminate }

-- com., a.com. and b.a.com.
abbrev pub com_name : DomainName
com_name = named (codes "com" ∷ [])

abbrev pub a_com_name : DomainName
a_com_name = named (codes "a" ∷ codes "com" ∷ [])

abbrev pub b_a_com_name : DomainName
b_a_com_name = named (codes "b" ∷ codes "a" ∷ codes "com" ∷ [])

-- NAMES (RFC 1035 sections 3.1 and 4.1.4)

-- the name at 12 is a pointer to 0, where a pointer leads to 12
abbrev pub pointers_in_a_circle : List ℕ
pointers_in_a_circle = 0xc0 ∷ 0x0c ∷ 0x00 ∷ 0x00 ∷ 0x00 ∷ 0x01 ∷ 0x00 ∷ 0x00 ∷ 0x00 ∷ 0x00 ∷ 0x00 ∷ 0x00 ∷ 0xc0 ∷ 0x00 ∷ 0x00 ∷ 0x01
    ∷ 0x00 ∷ 0x01 ∷ []

-- the name at 12 is a pointer to 12
abbrev pub pointer_to_itself : List ℕ
pointer_to_itself = replicate 12 0 ++ 0xc0 ∷ 0x0c ∷ []

-- the name at 12 is the label a and a pointer to that label
abbrev pub pointer_to_its_labels : List ℕ
pointer_to_its_labels = replicate 12 0 ++ 0x01 ∷ 0x61 ∷ 0xc0 ∷ 0x0c ∷ []

-- the name at 12 is a pointer to 14, where a pointer leads to 12
abbrev pub pointer_ahead : List ℕ
pointer_ahead = replicate 12 0 ++ 0xc0 ∷ 0x0e ∷ 0xc0 ∷ 0x0c ∷ []

-- the name at 12 is a pointer to 14, where the root stands
abbrev pub pointer_to_later_name : List ℕ
pointer_to_later_name = replicate 12 0 ++ 0xc0 ∷ 0x0e ∷ 0x00 ∷ []

-- the name at 12 is a pointer to 0, where the header reads as a label of eight bytes and the end byte
abbrev pub pointer_into_header : List ℕ
pointer_into_header = 0x08 ∷ 0x00 ∷ 0x00 ∷ 0x00 ∷ 0x00 ∷ 0x01 ∷ 0x00 ∷ 0x00 ∷ 0x00 ∷ 0x00 ∷ 0x00 ∷ 0x00 ∷ 0xc0 ∷ 0x00 ∷ [] ++ replicate 34 0

abbrev pub name_from_header : DomainName
name_from_header = named ((0x00 ∷ 0x00 ∷ 0x00 ∷ 0x00 ∷ 0x01 ∷ 0x00 ∷ 0x00 ∷ 0x00 ∷ []) ∷ [])

-- length bytes that begin with the bits 01 and 10
abbrev pub reserved_code_01 : List ℕ
reserved_code_01 = 0x40 ∷ 0x61 ∷ 0x00 ∷ []

abbrev pub reserved_code_10 : List ℕ
reserved_code_10 = 0x80 ∷ 0x00 ∷ []

-- n letters a, and the label of them behind its length byte
abbrev pub letters : ℕ → List ℕ
letters n = replicate n 0x61

abbrev pub label_of_letters : ℕ → List ℕ
label_of_letters n = n ∷ letters n

-- labels of 63, 63, 63 and 61 bytes: 255 bytes with the end byte
abbrev pub longest_name_bytes : List ℕ
longest_name_bytes = label_of_letters 63 ++ label_of_letters 63 ++ label_of_letters 63 ++ label_of_letters 61 ++ 0 ∷ []

abbrev pub longest_name : DomainName
longest_name = named (letters 63 ∷ letters 63 ∷ letters 63 ∷ letters 61 ∷ [])

-- one byte more
abbrev pub too_long_name : List ℕ
too_long_name = label_of_letters 63 ++ label_of_letters 63 ++ label_of_letters 63 ++ label_of_letters 62 ++ 0 ∷ []

-- labels of 63, 63, 63 and n bytes with their end byte at 0, and behind them the label a and a pointer to 0: a name has
-- at most 255 bytes with those that stand where its pointers lead (RFC 1035 sections 2.3.4 and 4.1.4)
abbrev pub name_through_pointer : ℕ → List ℕ
name_through_pointer n = label_of_letters 63 ++ label_of_letters 63 ++ label_of_letters 63 ++ label_of_letters n ++ 0x00 ∷ 0x01 ∷ 0x61 ∷ 0xc0 ∷ 0x00 ∷ []

-- the name at 253 has 255 bytes: two of its first label, 253 of those that the pointer leads to
abbrev pub longest_through_pointer : List ℕ
longest_through_pointer = name_through_pointer 59

abbrev pub longest_name_through_pointer : DomainName
longest_name_through_pointer = named (codes "a" ∷ letters 63 ∷ letters 63 ∷ letters 63 ∷ letters 59 ∷ [])

-- the name at 254 has 256
abbrev pub too_long_through_pointer : List ℕ
too_long_through_pointer = name_through_pointer 60

-- bytes that end before the label, within it, before the end byte, and within a pointer
abbrev pub label_missing : List ℕ
label_missing = 0x03 ∷ []

abbrev pub label_cut : List ℕ
label_cut = 0x03 ∷ 0x63 ∷ 0x6f ∷ []

abbrev pub end_missing : List ℕ
end_missing = 0x03 ∷ 0x63 ∷ 0x6f ∷ 0x6d ∷ []

abbrev pub pointer_cut : List ℕ
pointer_cut = replicate 12 0 ++ 0xc0 ∷ []

-- com at 12 with its end byte; a at 17 and a pointer to 12; b at 21 and a pointer to 17
abbrev pub names_by_pointers : List ℕ
names_by_pointers = replicate 12 0 ++ 0x03 ∷ 0x63 ∷ 0x6f ∷ 0x6d ∷ 0x00 ∷ 0x01 ∷ 0x61 ∷ 0xc0 ∷ 0x0c ∷ 0x01 ∷ 0x62 ∷ 0xc0 ∷ 0x11 ∷ []

-- RESOURCE RECORDS (RFC 1035 section 4.1.3): owner, type, class, TTL, length of the data, data

-- . 0 IN A 192.0.2.1
abbrev pub a_record : List ℕ
a_record = 0x00 ∷ 0x00 ∷ 0x01 ∷ 0x00 ∷ 0x01 ∷ 0x00 ∷ 0x00 ∷ 0x00 ∷ 0x00 ∷ 0x00 ∷ 0x04 ∷ 0xc0 ∷ 0x00 ∷ 0x02 ∷ 0x01 ∷ []

abbrev pub address : RData
address = rdata.A (ipv4_of (192 ∷ 0 ∷ 2 ∷ 1 ∷ []))

-- an A record whose data have five bytes, and one whose last byte is missing
abbrev pub a_record_of_five : List ℕ
a_record_of_five = 0x00 ∷ 0x00 ∷ 0x01 ∷ 0x00 ∷ 0x01 ∷ 0x00 ∷ 0x00 ∷ 0x00 ∷ 0x00 ∷ 0x00 ∷ 0x05 ∷ 0xc0 ∷ 0x00 ∷ 0x02 ∷ 0x01 ∷ 0x00 ∷ []

abbrev pub a_record_cut : List ℕ
a_record_cut = 0x00 ∷ 0x00 ∷ 0x01 ∷ 0x00 ∷ 0x01 ∷ 0x00 ∷ 0x00 ∷ 0x00 ∷ 0x00 ∷ 0x00 ∷ 0x04 ∷ 0xc0 ∷ 0x00 ∷ 0x02 ∷ []

-- . 0 ANY A with no data: delete the RRset (RFC 2136 section 2.5.2)
abbrev pub a_record_empty : List ℕ
a_record_empty = 0x00 ∷ 0x00 ∷ 0x01 ∷ 0x00 ∷ 0xff ∷ 0x00 ∷ 0x00 ∷ 0x00 ∷ 0x00 ∷ 0x00 ∷ 0x00 ∷ []

-- . 3600 IN AAAA 2001:db8::1 (RFC 3596 section 2.2)
abbrev pub aaaa_record : List ℕ
aaaa_record = 0x00 ∷ 0x00 ∷ 0x1c ∷ 0x00 ∷ 0x01 ∷ 0x00 ∷ 0x00 ∷ 0x0e ∷ 0x10 ∷ 0x00 ∷ 0x10 ∷ 0x20 ∷ 0x01 ∷ 0x0d ∷ 0xb8 ∷ 0x00
    ∷ 0x00 ∷ 0x00 ∷ 0x00 ∷ 0x00 ∷ 0x00 ∷ 0x00 ∷ 0x00 ∷ 0x00 ∷ 0x00 ∷ 0x00 ∷ 0x01 ∷ []

abbrev pub long_address : RData
long_address = rdata.AAAA (record { segments = 0x2001 ∷ 0x0db8 ∷ 0 ∷ 0 ∷ 0 ∷ 0 ∷ 0 ∷ 1 ∷ [] })

-- com at 0, and at 5: com. 3600 IN NS a.com., both names with a pointer to 0
abbrev pub ns_record : List ℕ
ns_record = 0x03 ∷ 0x63 ∷ 0x6f ∷ 0x6d ∷ 0x00 ∷ 0xc0 ∷ 0x00 ∷ 0x00 ∷ 0x02 ∷ 0x00 ∷ 0x01 ∷ 0x00 ∷ 0x00 ∷ 0x0e ∷ 0x10 ∷ 0x00
    ∷ 0x04 ∷ 0x01 ∷ 0x61 ∷ 0xc0 ∷ 0x00 ∷ []

-- . 0 IN CNAME a., with a byte too many
abbrev pub cname_record_with_more : List ℕ
cname_record_with_more = 0x00 ∷ 0x00 ∷ 0x05 ∷ 0x00 ∷ 0x01 ∷ 0x00 ∷ 0x00 ∷ 0x00 ∷ 0x00 ∷ 0x00 ∷ 0x04 ∷ 0x01 ∷ 0x61 ∷ 0x00 ∷ 0x00 ∷ []

abbrev pub exchange : RData
exchange = rdata.MX (record { preference = 10; exchange = a_name })

-- . 3600 IN MX 10 a.
abbrev pub mx_record : List ℕ
mx_record = 0x00 ∷ 0x00 ∷ 0x0f ∷ 0x00 ∷ 0x01 ∷ 0x00 ∷ 0x00 ∷ 0x0e ∷ 0x10 ∷ 0x00 ∷ 0x05 ∷ 0x00 ∷ 0x0a ∷ 0x01 ∷ 0x61 ∷ 0x00 ∷ []

-- . 3600 IN SOA ns. a. 2026112201 7200 3600 1209600 300
abbrev pub soa_record : List ℕ
soa_record = 0x00 ∷ 0x00 ∷ 0x06 ∷ 0x00 ∷ 0x01 ∷ 0x00 ∷ 0x00 ∷ 0x0e ∷ 0x10 ∷ 0x00 ∷ 0x1b ∷ 0x02 ∷ 0x6e ∷ 0x73 ∷ 0x00 ∷ 0x01
    ∷ 0x61 ∷ 0x00 ∷ 0x78 ∷ 0xc4 ∷ 0x04 ∷ 0xc9 ∷ 0x00 ∷ 0x00 ∷ 0x1c ∷ 0x20 ∷ 0x00 ∷ 0x00 ∷ 0x0e ∷ 0x10 ∷ 0x00 ∷ 0x12
    ∷ 0x75 ∷ 0x00 ∷ 0x00 ∷ 0x00 ∷ 0x01 ∷ 0x2c ∷ []

abbrev pub soa : RData
soa = rdata.SOA (record { mname = named (codes "ns" ∷ []); rname = a_name; serial = 2026112201; refresh = 7200; retry = 3600; expire = 1209600; minimum = 300 })

-- . 0 IN TXT "ab" ""
abbrev pub txt_record : List ℕ
txt_record = 0x00 ∷ 0x00 ∷ 0x10 ∷ 0x00 ∷ 0x01 ∷ 0x00 ∷ 0x00 ∷ 0x00 ∷ 0x00 ∷ 0x00 ∷ 0x04 ∷ 0x02 ∷ 0x61 ∷ 0x62 ∷ 0x00 ∷ []

-- a TXT record of two bytes, whose string has five
abbrev pub txt_record_with_more : List ℕ
txt_record_with_more = 0x00 ∷ 0x00 ∷ 0x10 ∷ 0x00 ∷ 0x01 ∷ 0x00 ∷ 0x00 ∷ 0x00 ∷ 0x00 ∷ 0x00 ∷ 0x02 ∷ 0x05 ∷ 0x61 ∷ 0x62 ∷ 0x63 ∷ 0x64
    ∷ 0x65 ∷ []

-- data of the types NULL and 65280
abbrev pub null_record : List ℕ
null_record = 0x00 ∷ 0x00 ∷ 0x0a ∷ 0x00 ∷ 0x01 ∷ 0x00 ∷ 0x00 ∷ 0x00 ∷ 0x00 ∷ 0x00 ∷ 0x02 ∷ 0xff ∷ 0x00 ∷ []

abbrev pub unknown_record : List ℕ
unknown_record = 0x00 ∷ 0xff ∷ 0x00 ∷ 0x00 ∷ 0x01 ∷ 0x00 ∷ 0x00 ∷ 0x00 ∷ 0x00 ∷ 0x00 ∷ 0x01 ∷ 0x2a ∷ []

-- an OPT record: payload 1232, version 1, no options (RFC 6891 section 6.1.2)
abbrev pub opt_version_one : List ℕ
opt_version_one = 0x00 ∷ 0x00 ∷ 0x29 ∷ 0x04 ∷ 0xd0 ∷ 0x00 ∷ 0x01 ∷ 0x00 ∷ 0x00 ∷ 0x00 ∷ 0x00 ∷ []

-- its data are three bytes of an option, and a whole option NSID of no bytes
abbrev pub opt_malformed : List ℕ
opt_malformed = 0x00 ∷ 0x00 ∷ 0x29 ∷ 0x02 ∷ 0x00 ∷ 0x00 ∷ 0x00 ∷ 0x00 ∷ 0x00 ∷ 0x00 ∷ 0x03 ∷ 0x00 ∷ 0x03 ∷ 0x00 ∷ []

abbrev pub opt_with_nsid : List ℕ
opt_with_nsid = 0x00 ∷ 0x00 ∷ 0x29 ∷ 0x02 ∷ 0x00 ∷ 0x00 ∷ 0x00 ∷ 0x00 ∷ 0x00 ∷ 0x00 ∷ 0x04 ∷ 0x00 ∷ 0x03 ∷ 0x00 ∷ 0x00 ∷ []

abbrev pub nsid : EdnsOption
nsid = record { code = 3; bytes = [] }

-- a TSIG record with no data, and one whose data are seventeen zeros (RFC 8945 section 4.2)
abbrev pub tsig_empty : List ℕ
tsig_empty = 0x00 ∷ 0x00 ∷ 0xfa ∷ 0x00 ∷ 0xff ∷ 0x00 ∷ 0x00 ∷ 0x00 ∷ 0x00 ∷ 0x00 ∷ 0x00 ∷ []

abbrev pub tsig_zeros : List ℕ
tsig_zeros = 0x00 ∷ 0x00 ∷ 0xfa ∷ 0x00 ∷ 0xff ∷ 0x00 ∷ 0x00 ∷ 0x00 ∷ 0x00 ∷ 0x00 ∷ 0x11 ∷ [] ++ replicate 17 0

abbrev pub zero_signature : TSIG
zero_signature = record { algorithm = root; time = 0; fudge = 0; mac = []; oid = 0; error = 0; other = [] }

-- algorithm a., time 6027214848, fudge 300, a MAC of two bytes, the original id 0x1234, the error 18, BADTIME, and the
-- server's time
abbrev pub tsig_bad_time : List ℕ
tsig_bad_time = 0x00 ∷ 0x00 ∷ 0xfa ∷ 0x00 ∷ 0xff ∷ 0x00 ∷ 0x00 ∷ 0x00 ∷ 0x00 ∷ 0x00 ∷ 0x1b ∷ 0x01 ∷ 0x61 ∷ 0x00 ∷ 0x00 ∷ 0x01
    ∷ 0x67 ∷ 0x40 ∷ 0x00 ∷ 0x00 ∷ 0x01 ∷ 0x2c ∷ 0x00 ∷ 0x02 ∷ 0xaa ∷ 0xbb ∷ 0x12 ∷ 0x34 ∷ 0x00 ∷ 0x12 ∷ 0x00 ∷ 0x06
    ∷ 0x00 ∷ 0x01 ∷ 0x67 ∷ 0x40 ∷ 0x01 ∷ 0x2d ∷ []

abbrev pub bad_time : TSIG
bad_time = record { algorithm = a_name; time = 6027214848; fudge = 300; mac = 0xaa ∷ 0xbb ∷ []; oid = 0x1234; error = 18; other = 0x00 ∷ 0x01 ∷ 0x67 ∷ 0x40 ∷ 0x01 ∷ 0x2d ∷ [] }

abbrev pub signature_record : Record TSIG
signature_record = record { name = root; dns_class = 255; ttl = 0; rdata = zero_signature; proof = Indeterminate }

-- a SIG record with no data (RFC 2931)
abbrev pub sig_empty : List ℕ
sig_empty = 0x00 ∷ 0x00 ∷ 0x18 ∷ 0x00 ∷ 0xff ∷ 0x00 ∷ 0x00 ∷ 0x00 ∷ 0x00 ∷ 0x00 ∷ 0x00 ∷ []

-- HEADERS (RFC 1035 section 4.1.1)

-- a header with these two bytes of flags, id 0x1234 and the counts 1 to 4
abbrev pub header_of_flags : ℕ → ℕ → List ℕ
header_of_flags one two = 0x12 ∷ 0x34 ∷ [] ++ one ∷ two ∷ 0x00 ∷ 0x01 ∷ 0x00 ∷ 0x02 ∷ 0x00 ∷ 0x03 ∷ 0x00 ∷ 0x04 ∷ []

abbrev pub with_counts : Metadata → Header
with_counts metadata = record { metadata = metadata; counts = record { queries = 1; answers = 2; authorities = 3; additionals = 4 } }

-- a request and a response with id 0x1234, this opcode and this code, and no flags
abbrev pub request : ℕ → ℕ → Metadata
request op_code code = record (bare_metadata 0x1234 message_type.Query op_code) { response_code = code }

abbrev pub response : ℕ → ℕ → Metadata
response op_code code = record (bare_metadata 0x1234 message_type.Response op_code) { response_code = code }

-- QR, RD and the code 5, Refused
abbrev pub refused : Header
refused = with_counts (record (response 0 5) { recursion_desired = true })

-- QR, AA and RD
abbrev pub authoritative : Header
authoritative = with_counts (record (response 0 0) { authoritative = true; recursion_desired = true })

-- QR, the opcode 5, an update, and the code 5
abbrev pub refused_update : Header
refused_update = with_counts (response 5 5)

-- QR, TC and the code 5
abbrev pub truncated : Header
truncated = with_counts (record (response 0 5) { truncation = true })

-- the opcode 2, a status request, and the code 4
abbrev pub status : Header
status = with_counts (request 2 4)

-- RA, AD and CD, each alone
abbrev pub recursion_available : Header
recursion_available = with_counts (record (request 0 0) { recursion_available = true })

abbrev pub authentic_data : Header
authentic_data = with_counts (record (request 0 0) { authentic_data = true })

abbrev pub checking_disabled : Header
checking_disabled = with_counts (record (request 0 0) { checking_disabled = true })

abbrev pub no_flags : Header
no_flags = with_counts (request 0 0)

-- ADDITIONAL SECTIONS (RFC 6891 section 6.1.1, RFC 8945 section 5.2)

-- an OPT record that says this payload, high code and version, and no more
abbrev pub saying : ℕ → ℕ → ℕ → EdnsFields
saying max_payload rcode_high version = record { max_payload = max_payload; rcode_high = rcode_high; version = version; dnssec_ok = false; reserved_flags = 0; options = [] }

-- a SIG record with no data among the other records
abbrev pub with_sig : Additionals
with_sig = record no_additionals { records = record_of root 255 0 (rdata.Update0 24) ∷ [] }

-- an OPT record with every field: payload 1232, high code 255, version 2, DO, the first and the last of the flags
-- behind it, and an option
abbrev pub opt_every_field : List ℕ
opt_every_field = 0x00 ∷ 0x00 ∷ 0x29 ∷ 0x04 ∷ 0xd0 ∷ 0xff ∷ 0x02 ∷ 0xc0 ∷ 0x01 ∷ 0x00 ∷ 0x04 ∷ 0x00 ∷ 0x03 ∷ 0x00 ∷ 0x00 ∷ []

abbrev pub every_field : EdnsFields
every_field = record { max_payload = 1232; rcode_high = 255; version = 2; dnssec_ok = true; reserved_flags = 0x4001; options = nsid ∷ [] }

-- an OPT record at the root, and one at a.
abbrev pub opt_record_at_root : Record RData
opt_record_at_root = record_of root 512 0 (rdata.OPT [])

abbrev pub opt_record_at_a : Record RData
opt_record_at_a = record_of a_name 512 0 (rdata.OPT [])

-- what stands behind an OPT record, and what stands behind a TSIG
abbrev pub with_edns : EdnsFields → Additionals
with_edns edns = record no_additionals { edns = Some edns }

abbrev pub with_signature : Record TSIG → Additionals
with_signature signature = record no_additionals { signature = Some signature }

abbrev pub two_opts : List ℕ
two_opts = opt_version_one ++ opt_version_one

-- MESSAGES (RFC 1035 section 4.1)

-- a query with RD for www.example.com. IN A
abbrev pub www_query : List ℕ
www_query = 0x12 ∷ 0x34 ∷ 0x01 ∷ 0x00 ∷ 0x00 ∷ 0x01 ∷ 0x00 ∷ 0x00 ∷ 0x00 ∷ 0x00 ∷ 0x00 ∷ 0x00 ∷ 0x03 ∷ 0x77 ∷ 0x77 ∷ 0x77
    ∷ 0x07 ∷ 0x65 ∷ 0x78 ∷ 0x61 ∷ 0x6d ∷ 0x70 ∷ 0x6c ∷ 0x65 ∷ 0x03 ∷ 0x63 ∷ 0x6f ∷ 0x6d ∷ 0x00 ∷ 0x00 ∷ 0x01 ∷ 0x00
    ∷ 0x01 ∷ []

abbrev pub www_question : Query
www_question = record { name = www_name; query_type = 1; query_class = 1 }

-- . IN A
abbrev pub root_question : Query
root_question = record { name = root; query_type = 1; query_class = 1 }

-- a message of questions and what the OPT record says
abbrev pub asking : Metadata → List Query → Option EdnsFields → Message
asking metadata queries edns = record { metadata = metadata; queries = queries; answers = []; authorities = []; additionals = []; edns = edns; signature = None }

abbrev pub www_message : Message
www_message = asking (record (request 0 0) { recursion_desired = true }) (www_question ∷ []) None

-- a query for . CH TXT
abbrev pub chaos_query : List ℕ
chaos_query = 0x00 ∷ 0x02 ∷ 0x00 ∷ 0x00 ∷ 0x00 ∷ 0x01 ∷ 0x00 ∷ 0x00 ∷ 0x00 ∷ 0x00 ∷ 0x00 ∷ 0x00 ∷ 0x00 ∷ 0x00 ∷ 0x10 ∷ 0x00
    ∷ 0x03 ∷ []

abbrev pub chaos_question : Query
chaos_question = record { name = root; query_type = 16; query_class = 3 }

abbrev pub chaos_message : Message
chaos_message = asking (bare_metadata 2 message_type.Query 0) (chaos_question ∷ []) None

-- a query for . IN A, whose OPT record has payload 1232 and EDNS version 1
abbrev pub query_version_one : List ℕ
query_version_one = 0x00 ∷ 0x01 ∷ 0x00 ∷ 0x00 ∷ 0x00 ∷ 0x01 ∷ 0x00 ∷ 0x00 ∷ 0x00 ∷ 0x00 ∷ 0x00 ∷ 0x01 ∷ 0x00 ∷ 0x00 ∷ 0x01 ∷ 0x00
    ∷ 0x01 ∷ 0x00 ∷ 0x00 ∷ 0x29 ∷ 0x04 ∷ 0xd0 ∷ 0x00 ∷ 0x01 ∷ 0x00 ∷ 0x00 ∷ 0x00 ∷ 0x00 ∷ []

abbrev pub version_one_message : Message
version_one_message = asking (bare_metadata 1 message_type.Query 0) (root_question ∷ []) (Some (saying 1232 0 1))

-- two OPT records
abbrev pub message_of_two_opts : List ℕ
message_of_two_opts = 0x00 ∷ 0x05 ∷ 0x00 ∷ 0x00 ∷ 0x00 ∷ 0x00 ∷ 0x00 ∷ 0x00 ∷ 0x00 ∷ 0x00 ∷ 0x00 ∷ 0x02 ∷ 0x00 ∷ 0x00 ∷ 0x29 ∷ 0x02
    ∷ 0x00 ∷ 0x00 ∷ 0x00 ∷ 0x00 ∷ 0x00 ∷ 0x00 ∷ 0x00 ∷ 0x00 ∷ 0x00 ∷ 0x29 ∷ 0x02 ∷ 0x00 ∷ 0x00 ∷ 0x00 ∷ 0x00 ∷ 0x00
    ∷ 0x00 ∷ 0x00 ∷ []

-- a response with code 0 in the header and the high code 1 in the OPT record: 16, BADVERS (RFC 6891 section 9)
abbrev pub bad_version : List ℕ
bad_version = 0x00 ∷ 0x01 ∷ 0x80 ∷ 0x00 ∷ 0x00 ∷ 0x00 ∷ 0x00 ∷ 0x00 ∷ 0x00 ∷ 0x00 ∷ 0x00 ∷ 0x01 ∷ 0x00 ∷ 0x00 ∷ 0x29 ∷ 0x02
    ∷ 0x00 ∷ 0x01 ∷ 0x00 ∷ 0x00 ∷ 0x00 ∷ 0x00 ∷ 0x00 ∷ []

abbrev pub bad_version_message : Message
bad_version_message = asking (record (bare_metadata 1 message_type.Response 0) { response_code = 16 }) [] (Some (saying 512 1 0))

-- twelve zeros: a query of nothing
abbrev pub empty_message : Message
empty_message = asking (bare_metadata 0 message_type.Query 0) [] None
