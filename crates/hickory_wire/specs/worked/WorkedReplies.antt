-- Worked examples: replies, and the bytes that they may be written as, by hand from the RFCs.
use Rattle.std.specs.Prelude.{ℕ, zero, suc, List, [], ◌∷◌, ◌++◌, true, false, replicate, Option, Some, None}
use Rattle.wire_messages.specs.rr.Addresses.{ipv4_of}
use Rattle.wire_messages.specs.op.EdnsFields.{EdnsFields}
use Rattle.wire_writing.specs.serialize.writing.OwnerNames.{OwnerPlace}
use Rattle.wire_messages.specs.serialize.writing.Reply.{Reply}
use Rattle.hickory_wire.specs.worked.Worked.{root, www_name, record_of, address, letters, response, saying, tsig_zeros, signature_record}
use Rattle.wire_writing.specs.serialize.writing.Writing.{ListFront, Fronts}
use Rattle.wire_messages.specs.declared.op.header.Metadata.{Metadata}
use Rattle.wire_messages.specs.declared.rr.rdata.RData.{RData}
use Rattle.wire_messages.specs.declared.rr.rdata.RData.TheVariants as rdata
use Rattle.wire_messages.specs.declared.rr.record.Record.{Record}

-- an authoritative response with RD
abbrev pub www_metadata : Metadata
www_metadata = record (response 0 0) { authoritative = true; recursion_desired = true }

-- www.example.com. IN A, as it stands in the question section
abbrev pub www_question_bytes : List ℕ
www_question_bytes = 0x03 ∷ 0x77 ∷ 0x77 ∷ 0x77 ∷ 0x07 ∷ 0x65 ∷ 0x78 ∷ 0x61 ∷ 0x6d ∷ 0x70 ∷ 0x6c ∷ 0x65 ∷ 0x03 ∷ 0x63 ∷ 0x6f ∷ 0x6d
    ∷ 0x00 ∷ 0x00 ∷ 0x01 ∷ 0x00 ∷ 0x01 ∷ []

-- www.example.com. 3600 IN A 93.184.215.14
abbrev pub www_answer : Record RData
www_answer = record_of www_name 1 3600 (rdata.A (ipv4_of (93 ∷ 184 ∷ 215 ∷ 14 ∷ [])))

abbrev pub www_answer_bytes : List ℕ
www_answer_bytes = 0x03 ∷ 0x77 ∷ 0x77 ∷ 0x77 ∷ 0x07 ∷ 0x65 ∷ 0x78 ∷ 0x61 ∷ 0x6d ∷ 0x70 ∷ 0x6c ∷ 0x65 ∷ 0x03 ∷ 0x63 ∷ 0x6f ∷ 0x6d
    ∷ 0x00 ∷ 0x00 ∷ 0x01 ∷ 0x00 ∷ 0x01 ∷ 0x00 ∷ 0x00 ∷ 0x0e ∷ 0x10 ∷ 0x00 ∷ 0x04 ∷ 0x5d ∷ 0xb8 ∷ 0xd7 ∷ 0x0e ∷ []

-- the answer to www.example.com. IN A
abbrev pub www_reply : Reply
www_reply = record { metadata = www_metadata; question = www_question_bytes; question_count = 1; edns = None; answers = www_answer ∷ []; authorities = []; soa = []; additionals = []; signature = None }

-- in full, 64 bytes
abbrev pub www_reply_in_full : List ℕ
www_reply_in_full = 0x12 ∷ 0x34 ∷ 0x85 ∷ 0x00 ∷ 0x00 ∷ 0x01 ∷ 0x00 ∷ 0x01 ∷ 0x00 ∷ 0x00 ∷ 0x00 ∷ 0x00 ∷ 0x03 ∷ 0x77 ∷ 0x77 ∷ 0x77
    ∷ 0x07 ∷ 0x65 ∷ 0x78 ∷ 0x61 ∷ 0x6d ∷ 0x70 ∷ 0x6c ∷ 0x65 ∷ 0x03 ∷ 0x63 ∷ 0x6f ∷ 0x6d ∷ 0x00 ∷ 0x00 ∷ 0x01 ∷ 0x00
    ∷ 0x01 ∷ 0x03 ∷ 0x77 ∷ 0x77 ∷ 0x77 ∷ 0x07 ∷ 0x65 ∷ 0x78 ∷ 0x61 ∷ 0x6d ∷ 0x70 ∷ 0x6c ∷ 0x65 ∷ 0x03 ∷ 0x63 ∷ 0x6f
    ∷ 0x6d ∷ 0x00 ∷ 0x00 ∷ 0x01 ∷ 0x00 ∷ 0x01 ∷ 0x00 ∷ 0x00 ∷ 0x0e ∷ 0x10 ∷ 0x00 ∷ 0x04 ∷ 0x5d ∷ 0xb8 ∷ 0xd7 ∷ 0x0e ∷ []

-- the answer's name as a pointer to 12, 49 bytes
abbrev pub www_reply_compressed : List ℕ
www_reply_compressed = 0x12 ∷ 0x34 ∷ 0x85 ∷ 0x00 ∷ 0x00 ∷ 0x01 ∷ 0x00 ∷ 0x01 ∷ 0x00 ∷ 0x00 ∷ 0x00 ∷ 0x00 ∷ 0x03 ∷ 0x77 ∷ 0x77 ∷ 0x77
    ∷ 0x07 ∷ 0x65 ∷ 0x78 ∷ 0x61 ∷ 0x6d ∷ 0x70 ∷ 0x6c ∷ 0x65 ∷ 0x03 ∷ 0x63 ∷ 0x6f ∷ 0x6d ∷ 0x00 ∷ 0x00 ∷ 0x01 ∷ 0x00
    ∷ 0x01 ∷ 0xc0 ∷ 0x0c ∷ 0x00 ∷ 0x01 ∷ 0x00 ∷ 0x01 ∷ 0x00 ∷ 0x00 ∷ 0x0e ∷ 0x10 ∷ 0x00 ∷ 0x04 ∷ 0x5d ∷ 0xb8 ∷ 0xd7
    ∷ 0x0e ∷ []

-- the answer again, its name a pointer to 33, where a pointer to 12 stands
abbrev pub www_answer_again : List ℕ
www_answer_again = 0xc0 ∷ 0x21 ∷ 0x00 ∷ 0x01 ∷ 0x00 ∷ 0x01 ∷ 0x00 ∷ 0x00 ∷ 0x0e ∷ 0x10 ∷ 0x00 ∷ 0x04 ∷ 0x5d ∷ 0xb8 ∷ 0xd7 ∷ 0x0e ∷ []

-- where the first answer was put
abbrev pub first_owner : OwnerPlace
first_owner = record { place = 33; labels = www_name.labels }

-- without the answer, TC set
abbrev pub www_reply_cut : List ℕ
www_reply_cut = 0x12 ∷ 0x34 ∷ 0x87 ∷ 0x00 ∷ 0x00 ∷ 0x01 ∷ 0x00 ∷ 0x00 ∷ 0x00 ∷ 0x00 ∷ 0x00 ∷ 0x00 ∷ 0x03 ∷ 0x77 ∷ 0x77 ∷ 0x77
    ∷ 0x07 ∷ 0x65 ∷ 0x78 ∷ 0x61 ∷ 0x6d ∷ 0x70 ∷ 0x6c ∷ 0x65 ∷ 0x03 ∷ 0x63 ∷ 0x6f ∷ 0x6d ∷ 0x00 ∷ 0x00 ∷ 0x01 ∷ 0x00
    ∷ 0x01 ∷ []

-- the shortest reply there is: ServFail
abbrev pub serv_fail : List ℕ
serv_fail = 0x12 ∷ 0x34 ∷ 0x80 ∷ 0x02 ∷ 0x00 ∷ 0x00 ∷ 0x00 ∷ 0x00 ∷ 0x00 ∷ 0x00 ∷ 0x00 ∷ 0x00 ∷ []

-- so many records of a list that was written whole, and of one that was cut
abbrev pub all_of : ℕ → ListFront
all_of count = record { count = count; is_cut = false }

abbrev pub cut_to : ℕ → ListFront
cut_to count = record { count = count; is_cut = true }

-- so much of the answers, of the authorities and of the OPT record was written, and nothing else was there
abbrev pub fronts_with : ListFront → ListFront → ListFront → Fronts
fronts_with answers authorities opt = record { answers = answers; authorities = authorities; additionals = all_of 0; opt = opt; signature = all_of 0 }

-- one answer; none of them, for its size; the OPT record alone; the TSIG record alone
abbrev pub one_answer : Fronts
one_answer = fronts_with (all_of 1) (all_of 0) (all_of 0)

abbrev pub answer_left_out : Fronts
answer_left_out = fronts_with (cut_to 0) (all_of 0) (all_of 0)

abbrev pub opt_alone : Fronts
opt_alone = fronts_with (all_of 0) (all_of 0) (all_of 1)

abbrev pub signature_alone : Fronts
signature_alone = record (fronts_with (all_of 0) (all_of 0) (all_of 0)) { signature = all_of 1 }

-- a reply with no question and these answers and authorities, and what its OPT record says
abbrev pub plain_reply : Metadata → List (Record RData) → List (Record RData) → Option EdnsFields → Reply
plain_reply metadata answers authorities edns = record { metadata = metadata; question = []; question_count = 0; edns = edns; answers = answers; authorities = authorities; soa = []; additionals = []; signature = None }

-- a reply with nothing but an OPT record: payload 512, DO
abbrev pub dnssec_ok_fields : EdnsFields
dnssec_ok_fields = record (saying 512 0 0) { dnssec_ok = true }

abbrev pub dnssec_ok_reply : Reply
dnssec_ok_reply = plain_reply (response 0 0) [] [] (Some dnssec_ok_fields)

abbrev pub dnssec_ok_bytes : List ℕ
dnssec_ok_bytes = 0x12 ∷ 0x34 ∷ 0x80 ∷ 0x00 ∷ 0x00 ∷ 0x00 ∷ 0x00 ∷ 0x00 ∷ 0x00 ∷ 0x00 ∷ 0x00 ∷ 0x01 ∷ 0x00 ∷ 0x00 ∷ 0x29 ∷ 0x02
    ∷ 0x00 ∷ 0x00 ∷ 0x00 ∷ 0x80 ∷ 0x00 ∷ 0x00 ∷ 0x00 ∷ []

-- a reply with the code 16, BADVERS: its low four bits in the header, the others in the OPT record
abbrev pub bad_version_fields : EdnsFields
bad_version_fields = saying 512 1 0

abbrev pub bad_version_reply : Reply
bad_version_reply = plain_reply (response 0 16) [] [] (Some bad_version_fields)

abbrev pub bad_version_bytes : List ℕ
bad_version_bytes = 0x12 ∷ 0x34 ∷ 0x80 ∷ 0x00 ∷ 0x00 ∷ 0x00 ∷ 0x00 ∷ 0x00 ∷ 0x00 ∷ 0x00 ∷ 0x00 ∷ 0x01 ∷ 0x00 ∷ 0x00 ∷ 0x29 ∷ 0x02
    ∷ 0x00 ∷ 0x01 ∷ 0x00 ∷ 0x00 ∷ 0x00 ∷ 0x00 ∷ 0x00 ∷ []

-- a reply with nothing but a TSIG record
abbrev pub signed_reply : Reply
signed_reply = record (plain_reply (response 0 0) [] [] None) { signature = Some signature_record }

abbrev pub signed_bytes : List ℕ
signed_bytes = 0x12 ∷ 0x34 ∷ 0x80 ∷ 0x00 ∷ 0x00 ∷ 0x00 ∷ 0x00 ∷ 0x00 ∷ 0x00 ∷ 0x00 ∷ 0x00 ∷ 0x01 ∷ [] ++ tsig_zeros

-- three answers of 31 bytes, and an authority of 15
abbrev pub long_reply : Reply
long_reply = plain_reply www_metadata (replicate 3 www_answer) (record_of root 1 0 address ∷ []) None

abbrev pub one_of_three : Fronts
one_of_three = fronts_with (cut_to 1) (all_of 1) (all_of 0)

-- one answer and the authority, TC set
abbrev pub long_reply_cut : List ℕ
long_reply_cut = 0x12 ∷ 0x34 ∷ 0x87 ∷ 0x00 ∷ 0x00 ∷ 0x00 ∷ 0x00 ∷ 0x01 ∷ 0x00 ∷ 0x01 ∷ 0x00 ∷ 0x00 ∷ 0x03 ∷ 0x77 ∷ 0x77 ∷ 0x77
    ∷ 0x07 ∷ 0x65 ∷ 0x78 ∷ 0x61 ∷ 0x6d ∷ 0x70 ∷ 0x6c ∷ 0x65 ∷ 0x03 ∷ 0x63 ∷ 0x6f ∷ 0x6d ∷ 0x00 ∷ 0x00 ∷ 0x01 ∷ 0x00
    ∷ 0x01 ∷ 0x00 ∷ 0x00 ∷ 0x0e ∷ 0x10 ∷ 0x00 ∷ 0x04 ∷ 0x5d ∷ 0xb8 ∷ 0xd7 ∷ 0x0e ∷ 0x00 ∷ 0x00 ∷ 0x01 ∷ 0x00 ∷ 0x01
    ∷ 0x00 ∷ 0x00 ∷ 0x00 ∷ 0x00 ∷ 0x00 ∷ 0x04 ∷ 0xc0 ∷ 0x00 ∷ 0x02 ∷ 0x01 ∷ []

-- a hundred answers of 31 bytes in full, and of 16 with their name as a pointer, of which thirty fit 512 bytes, since
-- 12 + 31 + 29 * 16 is 507
abbrev pub hundred_answers : Reply
hundred_answers = plain_reply www_metadata (replicate 100 www_answer) [] None

-- so many copies of a text, one behind the other
abbrev pub repeated : ℕ → List ℕ → List ℕ
repeated zero text = []
repeated (suc count) text = text ++ repeated count text

abbrev pub thirty_of_hundred : Fronts
thirty_of_hundred = fronts_with (cut_to 30) (all_of 0) (all_of 0)

-- an answer whose name is a pointer to the first answer's, behind the header
abbrev pub answer_by_pointer : List ℕ
answer_by_pointer = 0xc0 ∷ 0x0c ∷ 0x00 ∷ 0x01 ∷ 0x00 ∷ 0x01 ∷ 0x00 ∷ 0x00 ∷ 0x0e ∷ 0x10 ∷ 0x00 ∷ 0x04 ∷ 0x5d ∷ 0xb8 ∷ 0xd7 ∷ 0x0e ∷ []

abbrev pub thirty_answers : List ℕ
thirty_answers = 0x12 ∷ 0x34 ∷ 0x87 ∷ 0x00 ∷ 0x00 ∷ 0x00 ∷ 0x00 ∷ 0x1e ∷ 0x00 ∷ 0x00 ∷ 0x00 ∷ 0x00 ∷ [] ++ www_answer_bytes ++ repeated 29 answer_by_pointer

-- a reply with a character string of 256 bytes
abbrev pub too_long_string : Record RData
too_long_string = record_of root 1 0 (rdata.TXT (letters 256 ∷ []))

abbrev pub formless_reply : Reply
formless_reply = plain_reply (response 0 0) (record_of root 1 0 address ∷ too_long_string ∷ []) [] None
