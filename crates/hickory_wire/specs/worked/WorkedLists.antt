-- A reply with all five lists, the SOA behind the authorities, and what may be written of it.
use Rattle.std.specs.Prelude.{List, ℕ, [], ◌∷◌, ◌++◌, replicate, true, Some, None}
use Rattle.wire_messages.specs.serialize.writing.Reply.{Reply}
use Rattle.hickory_wire.specs.worked.Worked.{root, record_of, address, a_record, response, tsig_zeros, signature_record}
use Rattle.hickory_wire.specs.worked.WorkedReplies.{all_of, cut_to, dnssec_ok_fields, plain_reply, too_long_string}
use Rattle.wire_writing.specs.serialize.writing.Writing.{Fronts}
use Rattle.wire_messages.specs.declared.rr.rdata.RData.{RData}
use Rattle.wire_messages.specs.declared.rr.rdata.RData.TheVariants as rdata
use Rattle.wire_messages.specs.declared.rr.record.Record.{Record}
use Rattle.wire_messages.specs.declared.rr.rdata.SOA.{SOA}

-- records of the root: . 0 IN NS ., an SOA of zeros, and . 0 IN PTR .
abbrev pub root_server : Record RData
root_server = record_of root 1 0 (rdata.NS root)

abbrev pub root_server_bytes : List ℕ
root_server_bytes = 0x00 ∷ 0x00 ∷ 0x02 ∷ 0x00 ∷ 0x01 ∷ 0x00 ∷ 0x00 ∷ 0x00 ∷ 0x00 ∷ 0x00 ∷ 0x01 ∷ 0x00 ∷ []

abbrev pub zero_soa : SOA
zero_soa = record { mname = root; rname = root; serial = 0; refresh = 0; retry = 0; expire = 0; minimum = 0 }

abbrev pub root_authority : Record RData
root_authority = record_of root 1 0 (rdata.SOA zero_soa)

abbrev pub root_authority_bytes : List ℕ
root_authority_bytes = 0x00 ∷ 0x00 ∷ 0x06 ∷ 0x00 ∷ 0x01 ∷ 0x00 ∷ 0x00 ∷ 0x00 ∷ 0x00 ∷ 0x00 ∷ 0x16 ∷ 0x00 ∷ 0x00 ∷ [] ++ replicate 20 0

abbrev pub root_pointer : Record RData
root_pointer = record_of root 1 0 (rdata.PTR root)

abbrev pub root_pointer_bytes : List ℕ
root_pointer_bytes = 0x00 ∷ 0x00 ∷ 0x0c ∷ 0x00 ∷ 0x01 ∷ 0x00 ∷ 0x00 ∷ 0x00 ∷ 0x00 ∷ 0x00 ∷ 0x01 ∷ 0x00 ∷ []

-- one record of each list, and the SOA
abbrev pub five_lists : Reply
five_lists = record {
  metadata = response 0 0;
  question = [];
  question_count = 0;
  edns = Some dnssec_ok_fields;
  answers = record_of root 1 0 address ∷ [];
  authorities = root_server ∷ [];
  soa = root_authority ∷ [];
  additionals = root_pointer ∷ [];
  signature = Some signature_record;
}

-- five lists in a reply with TC of its own
abbrev pub five_lists_truncated : Reply
five_lists_truncated = record five_lists { metadata = record (response 0 0) { truncation = true } }

-- the four sections' records, of 84 bytes with the header before them
abbrev pub section_bytes : List ℕ
section_bytes = a_record ++ root_server_bytes ++ root_authority_bytes ++ root_pointer_bytes

-- all of it, 123 bytes: one answer, two authorities, three additionals, TC as it was; an OPT record with payload 512
-- and DO, then the TSIG
abbrev pub five_lists_whole : Fronts
five_lists_whole = record { answers = all_of 1; authorities = all_of 2; additionals = all_of 1; opt = all_of 1; signature = all_of 1 }

abbrev pub five_lists_in_full : List ℕ
five_lists_in_full = 0x12 ∷ 0x34 ∷ 0x82 ∷ 0x00 ∷ 0x00 ∷ 0x00 ∷ 0x00 ∷ 0x01 ∷ 0x00 ∷ 0x02 ∷ 0x00 ∷ 0x03 ∷ [] ++ section_bytes
    ++ (0x00 ∷ 0x00 ∷ 0x29 ∷ 0x02 ∷ 0x00 ∷ 0x00 ∷ 0x00 ∷ 0x80 ∷ 0x00 ∷ 0x00 ∷ 0x00 ∷ []) ++ tsig_zeros

-- OPT and TSIG left out, TC set
abbrev pub additions_left_out : Fronts
additions_left_out = record { answers = all_of 1; authorities = all_of 2; additionals = all_of 1; opt = cut_to 0; signature = cut_to 0 }

abbrev pub five_lists_cut : List ℕ
five_lists_cut = 0x12 ∷ 0x34 ∷ 0x82 ∷ 0x00 ∷ 0x00 ∷ 0x00 ∷ 0x00 ∷ 0x01 ∷ 0x00 ∷ 0x02 ∷ 0x00 ∷ 0x01 ∷ [] ++ section_bytes

-- a record without a form that is too large for twenty bytes as well
abbrev pub formless_and_large : Reply
formless_and_large = plain_reply (response 0 0) (too_long_string ∷ []) [] None
