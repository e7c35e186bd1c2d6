-- What the worked examples are made of.
use Rattle.std.specs.Prelude.{◌∷◌, [], ℕ, List, None, codes, replicate, true}
use Rattle.std.specs.declared.net.ip_addr.IpAddr.TheVariants.{V4}
use Rattle.wire_names.specs.rr.domain.DomainName.{DomainName}
use Rattle.wire_messages.specs.Numbers.{class_in, opcode_notify, type_soa}
use Rattle.wire_messages.specs.op.Metadata.{bare_metadata}
use Rattle.wire_messages.specs.rr.Addresses.{ipv4_of}
use Rattle.wire_messages.specs.declared.op.header.MessageType.{MessageType}
use Rattle.wire_messages.specs.declared.rr.rdata.SOA.{SOA}
use Rattle.wire_reading.specs.declared.op.message.Message.{Message}
use Rattle.notices.specs.Schedule.{first_notice, sent_at}
use Rattle.notices.specs.declared.notice.Notice.{Notice}
use Rattle.notices.specs.declared.notice.Target.{Target}

abbrev pub name : List (List ℕ) → DomainName
name labels = record { labels = labels; is_fqdn = true }

-- a zone, its name in capital letters, and another zone
abbrev pub zone : DomainName
zone = name (codes "ex" ∷ [])

abbrev pub capitals : DomainName
capitals = name (codes "EX" ∷ [])

abbrev pub other_zone : DomainName
other_zone = name (codes "ey" ∷ [])

abbrev pub soa : SOA
soa = record { mname = name (codes "ns" ∷ codes "ex" ∷ []); rname = name (codes "h" ∷ codes "ex" ∷ []); serial = 7; refresh = 3600; retry = 600; expire = 86400; minimum = 60 }

-- the same with names of 255 octets and 194 + n octets
abbrev pub long_name : ℕ → DomainName
long_name n = name (replicate 63 97 ∷ replicate 63 97 ∷ replicate 63 97 ∷ replicate n 97 ∷ [])

abbrev pub long_soa : ℕ → SOA
long_soa n = record soa { mname = long_name 61; rname = long_name n }

-- 192.0.2.1 and 192.0.2.2, port 53, and 192.0.2.1, port 54
abbrev pub here : Target
here = record { address = V4 (ipv4_of (192 ∷ 0 ∷ 2 ∷ 1 ∷ [])); port = 53 }

abbrev pub there : Target
there = record { address = V4 (ipv4_of (192 ∷ 0 ∷ 2 ∷ 2 ∷ [])); port = 53 }

abbrev pub other_port : Target
other_port = record { address = V4 (ipv4_of (192 ∷ 0 ∷ 2 ∷ 1 ∷ [])); port = 54 }

-- a notice of the zone to 192.0.2.1 from the moment 1000 on, and the same once it was sent with the id 4660
abbrev pub told : Notice
told = first_notice zone 3600 soa 1000 here

abbrev pub sent : Notice
sent = sent_at 1000 4660 told

-- a message of NOTIFY without records
abbrev pub message : ℕ → MessageType → DomainName → Message
message id kind asked = record {
  metadata = bare_metadata id kind opcode_notify;
  queries = record { name = asked; query_type = type_soa; query_class = class_in } ∷ [];
  answers = [];
  authorities = [];
  additionals = [];
  edns = None;
  signature = None;
}
