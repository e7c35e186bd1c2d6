-- What is sent over UDP of a reply for which there may be no room (RFC 1035 section 4.2.1, RFC 6891 section 6.2.3).
use Rattle.std.specs.Prelude.{◌≡◌, ◌+◌, ◌-◌, ◌<◌, ◌≤◌, ◌==◌, ◌&&◌, ℕ, List, Bool, None, Option, Some, drop, false, length, max, min, not, option_map, slice_get, take, true, []}
use Rattle.std.specs.List.{list_any}
use Rattle.wire_names.specs.rr.domain.NameOrder.{name_eq}
use Rattle.wire_messages.specs.Numbers.{type_ns, type_soa}
use Rattle.wire_messages.specs.op.EdnsFields.{EdnsFields}
use Rattle.wire_messages.specs.rr.RecordData.{type_of}
use Rattle.wire_messages.specs.serialize.writing.Reply.{Reply}
use Rattle.wire_messages.specs.declared.op.header.Header.{Header}
use Rattle.wire_messages.specs.declared.op.header.Metadata.{Metadata}
use Rattle.wire_messages.specs.declared.rr.rdata.RData.{RData}
use Rattle.wire_messages.specs.declared.rr.record.Record.{Record}
use Rattle.hickory_wire.specs.serialize.writing.ReplyParts.{ReplyEncoded}
use Rattle.hickory_server.specs.server.Written.{IsEncoding, bare_message, with_tc}

-- ---- the records of a reply

-- whether there is a record of this type among these
abbrev pub has_type : ℕ → List (Record RData) → Bool
has_type number = list_any (λ r. type_of r.rdata == number)

-- The reply is a referral: its authority section has NS records, and no SOA record (RFC 1034 section 4.3.2 step 3b, RFC
-- 2308 section 2.2). Its additionals are glue, also if a CNAME record is among its answers (RFC 9471 section 3.1).
pub record IsReferral (reply : Reply) : Type 0 where
  pub name_servers : has_type type_ns reply.authorities ≡ true
  pub no_soa : has_type type_soa reply.authorities ≡ false
  pub no_last_soa : has_type type_soa reply.soa ≡ false

-- whether two records are of one RRset: they have the same owner, type and class (RFC 2181 section 5)
abbrev pub is_of_set : Record RData → Record RData → Bool
is_of_set one other = name_eq one.name other.name && (type_of one.rdata == type_of other.rdata) && (one.dns_class == other.dns_class)

-- whether the last record before a place and the next one after it are of two RRsets, or one of them does not exist
abbrev pub are_parted : Option (Record RData) → Option (Record RData) → Bool
are_parted (Some last) (Some next) = not (is_of_set last next)
are_parted other next = true

-- whether so many of these records have no part of an RRset
abbrev pub ends_set : List (Record RData) → ℕ → Bool
ends_set records count = are_parted (slice_get (take count records) (length (take count records) - 1)) (slice_get (drop count records) 0)

-- the reply with so many of its additionals, and without its signature, which would not hold over a shorter message
-- (RFC 8945 section 5.3)
abbrev pub front_of : Reply → ℕ → Reply
front_of reply count = record reply { additionals = take count reply.additionals; signature = None }

-- ---- room

-- By the header of an encoding a record is left out: it has TC, and the reply has not.
abbrev pub LeavesOut : Metadata → Header → Type 0
LeavesOut metadata header = (metadata.truncation ≡ false) × (header.metadata.truncation ≡ true)

-- The reply has no room: this is the header of its encoding within the limit, and a record is left out. With all its
-- names in full, that record passes the limit.
abbrev pub HasNoRoom : ℕ → Reply → Header → Type 0
HasNoRoom limit reply header = (bytes : List ℕ) × ReplyEncoded limit reply bytes header × LeavesOut reply.metadata header

-- The bytes are the encoding of the reply within the limit, and no record is left out.
abbrev pub IsWhole : ℕ → Reply → List ℕ → Type 0
IsWhole limit reply bytes = (header : Header) × ReplyEncoded limit reply bytes header × ¬ (LeavesOut reply.metadata header)

-- So many additionals have a part of an RRset, or the reply with them has no room.
abbrev pub IsNoFront : ℕ → Reply → ℕ → Type 0
IsNoFront limit reply count = ends_set reply.additionals count ≡ true → (header : Header) × HasNoRoom limit (front_of reply count) header

-- The bytes are the reply with so many of its additionals, which have no part of an RRset.
abbrev pub IsFront : ℕ → Reply → ℕ → List ℕ → Type 0
IsFront limit reply count bytes = (ends_set reply.additionals count ≡ true) × IsWhole limit (front_of reply count) bytes

-- The bytes are the reply with whole RRsets of its additionals, in their order, and no longer front of them has room,
-- up to this length.
pub record IsLongestFront (limit : ℕ) (reply : Reply) (most : ℕ) (bytes : List ℕ) : Type 0 where
  pub count : ℕ
  pub at_most : count ≤ most
  pub is_front : IsFront limit reply count bytes
  pub no_longer : (more : ℕ) → count < more → more ≤ most → IsNoFront limit reply more

-- A reply that has no room, with this header, lacks a record that it must have, or TC.
pub data LacksNeeded (limit : ℕ) (reply : Reply) (header : Header) : Type 0 where
  -- an answer or an authority (RFC 2181 section 9)
  answer : header.counts.answers < length reply.answers → LacksNeeded limit reply header
  authority : header.counts.authorities < length reply.authorities + length reply.soa → LacksNeeded limit reply header
  -- glue (RFC 9471 section 3.1)
  glue : IsReferral reply → LacksNeeded limit reply header
  -- the OPT record, even without additionals (RFC 6891 section 7)
  opt : IsNoFront limit reply 0 → LacksNeeded limit reply header

-- ---- what is sent

-- what an OPT record says of the same server, without options
abbrev pub without_options : EdnsFields → EdnsFields
without_options edns = record edns { max_payload = max edns.max_payload 512; reserved_flags = 0; options = [] }

-- the header of a reply with TC, its questions and its OPT record, and no other record
abbrev pub truncated : Reply → Reply
truncated reply = bare_message (with_tc reply.metadata) reply.question reply.question_count (option_map without_options reply.edns)

-- What is sent of a reply within the limit.
pub data IsFitted (limit : ℕ) (reply : Reply) (bytes : List ℕ) : Type 0 where
  -- No record is left out.
  whole : IsWhole limit reply bytes → IsFitted limit reply bytes
  -- Only RRsets of additionals are left out, and the reply is no referral: TC is clear (RFC 2181 section 9).
  front : {header : Header} → HasNoRoom limit reply header → ¬ (IsReferral reply)
      → IsLongestFront limit reply (min header.counts.additionals (length reply.additionals)) bytes → IsFitted limit reply bytes
  -- A record that it must have has no room: TC is set (RFC 2181 section 9).
  tc : {header : Header} → HasNoRoom limit reply header → LacksNeeded limit reply header → IsEncoding limit (truncated reply) bytes → IsFitted limit reply bytes
