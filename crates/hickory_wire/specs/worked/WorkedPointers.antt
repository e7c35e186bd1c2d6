-- Worked examples: replies with names by pointers, and behind a record that was left out, by hand from RFC 1035 section
-- 4.1.4.
use Rattle.std.specs.Prelude.{ℕ, List, [], ◌∷◌, codes, true, None}
use Rattle.wire_names.specs.rr.domain.DomainName.{DomainName}
use Rattle.wire_messages.specs.serialize.writing.Reply.{Reply}
use Rattle.hickory_wire.specs.worked.Worked.{record_of, address, letters, response}
use Rattle.hickory_wire.specs.worked.WorkedReplies.{all_of, cut_to, fronts_with, plain_reply}
use Rattle.wire_writing.specs.serialize.writing.Writing.{Fronts}
use Rattle.wire_messages.specs.declared.rr.rdata.RData.{RData}
use Rattle.wire_messages.specs.declared.rr.rdata.RData.TheVariants as rdata
use Rattle.wire_messages.specs.declared.rr.record.Record.{Record}

abbrev pub example_name : DomainName
example_name = record { labels = codes "example" ∷ codes "com" ∷ []; is_fqdn = true }

abbrev pub mail_name : DomainName
mail_name = record { labels = codes "mail" ∷ codes "example" ∷ codes "com" ∷ []; is_fqdn = true }

-- example.com. 3600 IN MX 10 mail.example.com.
abbrev pub mail_answer : Record RData
mail_answer = record_of example_name 1 3600 (rdata.MX (record { preference = 10; exchange = mail_name }))

abbrev pub mail_reply : Reply
mail_reply = plain_reply (response 0 0) (mail_answer ∷ []) [] None

-- the end of the exchange as a pointer to 12, where the owner name stands: nine bytes of data
abbrev pub mail_bytes : List ℕ
mail_bytes = 0x12 ∷ 0x34 ∷ 0x80 ∷ 0x00 ∷ 0x00 ∷ 0x00 ∷ 0x00 ∷ 0x01 ∷ 0x00 ∷ 0x00 ∷ 0x00 ∷ 0x00 ∷ 0x07 ∷ 0x65 ∷ 0x78 ∷ 0x61
    ∷ 0x6d ∷ 0x70 ∷ 0x6c ∷ 0x65 ∷ 0x03 ∷ 0x63 ∷ 0x6f ∷ 0x6d ∷ 0x00 ∷ 0x00 ∷ 0x0f ∷ 0x00 ∷ 0x01 ∷ 0x00 ∷ 0x00 ∷ 0x0e
    ∷ 0x10 ∷ 0x00 ∷ 0x09 ∷ 0x00 ∷ 0x0a ∷ 0x04 ∷ 0x6d ∷ 0x61 ∷ 0x69 ∷ 0x6c ∷ 0xc0 ∷ 0x0c ∷ []

abbrev pub net_name : DomainName
net_name = record { labels = codes "a" ∷ codes "example" ∷ codes "net" ∷ []; is_fqdn = true }

-- a.example.net. 0 IN TXT, two strings of 250 bytes
abbrev pub large_answer : Record RData
large_answer = record_of net_name 1 0 (rdata.TXT (letters 250 ∷ letters 250 ∷ []))

-- a.example.net. 0 IN A 192.0.2.1
abbrev pub net_address : Record RData
net_address = record_of net_name 1 0 address

abbrev pub large_reply : Reply
large_reply = record (plain_reply (response 0 0) (large_answer ∷ []) [] None) { additionals = net_address ∷ [] }

abbrev pub additional_alone : Fronts
additional_alone = record (fronts_with (cut_to 0) (all_of 0) (all_of 0)) { additionals = all_of 1 }

-- the answer left out, TC set, and the additional with its name in full
abbrev pub large_bytes : List ℕ
large_bytes = 0x12 ∷ 0x34 ∷ 0x82 ∷ 0x00 ∷ 0x00 ∷ 0x00 ∷ 0x00 ∷ 0x00 ∷ 0x00 ∷ 0x00 ∷ 0x00 ∷ 0x01 ∷ 0x01 ∷ 0x61 ∷ 0x07 ∷ 0x65
    ∷ 0x78 ∷ 0x61 ∷ 0x6d ∷ 0x70 ∷ 0x6c ∷ 0x65 ∷ 0x03 ∷ 0x6e ∷ 0x65 ∷ 0x74 ∷ 0x00 ∷ 0x00 ∷ 0x01 ∷ 0x00 ∷ 0x01 ∷ 0x00
    ∷ 0x00 ∷ 0x00 ∷ 0x00 ∷ 0x00 ∷ 0x04 ∷ 0xc0 ∷ 0x00 ∷ 0x02 ∷ 0x01 ∷ []
