-- When the signature of a message is good by a key, as a handler of updates asks it (RFC 8945 section 5.2).
use Rattle.std.specs.Prelude.{ℕ, ◌+◌, ◌-◌, ◌^◌, Bool, ◌&&◌, nat_le, nat_lt, List, length, Option, Some, None, Result, Ok, Err, if◌then◌else◌}
use Rattle.std.specs.declared.ops.Range.{Range}
use Rattle.wire_names.specs.rr.domain.DomainName.{DomainName}
use Rattle.wire_names.specs.rr.domain.NameOrder.{name_eq}
use Rattle.wire_names.specs.declared.error.DecodeError.{DecodeError}
use Rattle.wire_messages.specs.declared.rr.record.Record.{Record}
use Rattle.wire_messages.specs.declared.rr.tsig.TSIG.{TSIG}
use Rattle.wire_reading.specs.serialize.reading.MessageReading.{front_of}
use Rattle.tsig.specs.Judging.{has_fixed_fields, is_mac_len, is_mac_of, is_named, signed_text}
use Rattle.tsig.specs.Keys.{key_of}
use Rattle.tsig.specs.Reading.{signature_of}
use Rattle.tsig.specs.declared.keys.Key.{Key}
use Rattle.tsig.specs.declared.reading.PlacedSignature.{PlacedSignature}

-- The record has its form and is of the key, in name and algorithm, with a MAC of a length that there is and that local
-- policy takes.
abbrev pub is_of : Key → Record TSIG → Bool
is_of key s =
    has_fixed_fields s && nat_lt s.rdata.time (2 ^ 48) && name_eq key.name s.name && is_named key.algorithm s.rdata.algorithm
    && is_mac_len key.algorithm (length s.rdata.mac) && nat_le key.shortest (length s.rdata.mac)

-- And it is the MAC of the message.
abbrev pub is_signed : Key → List ℕ → PlacedSignature → Bool
is_signed key bytes p = is_of key p.signature && is_mac_of key (signed_text key bytes p.additionals p.place p.signature) p.signature.rdata.mac

-- when it is good: the fudge before and behind its time, both ends included (section 5.2.3)
abbrev pub times_of : TSIG → Range ℕ
times_of t = record { start = t.time - t.fudge; end = t.time + t.fudge + 1 }

abbrev pub times_by : Key → List ℕ → PlacedSignature → Option (Range ℕ)
times_by key bytes p = if is_signed key bytes p then Some (times_of p.signature.rdata) else None

abbrev pub times_found : Key → List ℕ → Result (Option PlacedSignature) DecodeError → Option (Range ℕ)
times_found key bytes (Ok (Some p)) = times_by key bytes p
times_found key bytes (Ok None) = None
times_found key bytes (Err e) = None

abbrev pub times_if_known : Option Key → List ℕ → Option (Range ℕ)
times_if_known None bytes = None
times_if_known (Some key) bytes = times_found key bytes (signature_of (front_of bytes))

-- When the signature of a message is good, by the key of this name; `None` where it never is.
unfoldable pub validity : List Key → DomainName → List ℕ → Option (Range ℕ)
validity keys name bytes = times_if_known (key_of keys name) bytes
