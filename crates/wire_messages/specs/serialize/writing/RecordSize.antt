-- How large a resource record is with every name in full, and which records have no form in bytes (RFC 1035 sections
-- 3.3 and 4.1.3).
use Rattle.std.specs.Prelude.{◌≡◌, ℕ, ◌+◌, ◌<◌, ◌^◌, length, Option, Some, None, nat_lt, nat_le, if◌then◌else◌}
use Rattle.std.specs.List.{flat_map, list_any}
use Rattle.std.specs.Net.Addr.{ipv4_octets, ipv6_octets}
use Rattle.wire_names.specs.rr.domain.DomainName.{name_len}
use Rattle.wire_messages.specs.rr.RecordData.{character_string, option_octets, tsig_fields}
use Rattle.wire_names.specs.declared.error.ProtoError.{ProtoError}
use Rattle.wire_names.specs.declared.error.ProtoError.TheVariants.{CharacterDataTooLong, DataTooLong}
use Rattle.wire_messages.specs.declared.rr.rdata.RData.{RData}
use Rattle.wire_messages.specs.declared.rr.rdata.RData.TheVariants as rdata
use Rattle.wire_messages.specs.declared.rr.record.Record.{Record}

-- how many bytes data take with every name in full
abbrev pub data_len : RData → ℕ
data_len (rdata.A address) = length (ipv4_octets address)
data_len (rdata.AAAA address) = length (ipv6_octets address)
data_len (rdata.NS name) = name_len name.labels
data_len (rdata.CNAME name) = name_len name.labels
data_len (rdata.PTR name) = name_len name.labels
data_len (rdata.MX mx) = 2 + name_len mx.exchange.labels
data_len (rdata.SOA soa) = name_len soa.mname.labels + name_len soa.rname.labels + 20
data_len (rdata.TXT strings) = length (flat_map character_string strings)
data_len (rdata.OPT options) = length (flat_map option_octets options)
data_len (rdata.TSIG signature) = name_len signature.algorithm.labels + length (tsig_fields signature)
data_len (rdata.NULL octets) = length octets
data_len (rdata.Update0 code) = 0
data_len (rdata.Unknown code octets) = length octets

-- owner name, type, class, TTL, length of the data, and the data
abbrev pub full_size : Record RData → ℕ
full_size r = name_len r.name.labels + 10 + data_len r.rdata

-- what is left of a room behind so many bytes, or none where they do not fit
abbrev pub Leaves : ℕ → ℕ → Option ℕ → Type 0
Leaves room size (Some left) = left + size ≡ room
Leaves room size None = room < size

-- the data's length has 16 bits
abbrev pub length_fault : ℕ → Option ProtoError
length_fault len = if nat_lt 65535 len then Some DataTooLong else None

-- Why data have no form in bytes, if they have none: a character string of more than 255 bytes (RFC 1035 section 3.3),
-- data or a part of them too long for their length field, or a time of more than 48 bits (RFC 8945 section 4.2).
abbrev pub unwritable_reason : RData → Option ProtoError
unwritable_reason (rdata.TXT strings) = if list_any (λ text. nat_lt 255 (length text)) strings then Some CharacterDataTooLong else length_fault (data_len (rdata.TXT strings))
unwritable_reason (rdata.TSIG signature) = if nat_le (2 ^ 48) signature.time then Some DataTooLong else length_fault (data_len (rdata.TSIG signature))
unwritable_reason content = length_fault (data_len content)
