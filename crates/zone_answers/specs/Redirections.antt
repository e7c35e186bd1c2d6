-- The names that a DNAME makes (RFC 6672).
use Rattle.std.specs.Prelude.{ℕ, Bool, cond, nat_lt, ◌==◌, List, ◌++◌, length, take, Option, Some, None, Ok, Err}
use Rattle.wire_names.specs.rr.domain.DomainName.{DomainName, name_len}
use Rattle.wire_messages.specs.Numbers.{type_dname}
use Rattle.wire_messages.specs.serialize.reading.NameReading.{name}
use Rattle.wire_messages.specs.serialize.reading.Reading.{Read}
use Rattle.wire_messages.specs.declared.rr.rdata.RData.{RData}
use Rattle.wire_messages.specs.declared.rr.rdata.RData.TheVariants as rdata
use Rattle.wire_messages.specs.declared.rr.record.Record.{Record}

abbrev pub read_whole : List ℕ → Read DomainName → Option DomainName
read_whole bytes (Ok part) = cond (part.1.place == length bytes) (Some part.0) None
read_whole bytes (Err e) = None

-- the name that the octets are, if they are one and nothing more
abbrev pub whole_name : List ℕ → Option DomainName
whole_name bytes = read_whole bytes (name (record { bytes = bytes; place = 0 }))

-- the target of a DNAME record (section 2.1), whose data lie as octets
abbrev pub target_in : RData → Option DomainName
target_in (rdata.Unknown t bytes) = cond (t == type_dname) (whole_name bytes) None
target_in other = None

-- the name with its first k labels kept as they are and the target in the place of the others (section 2.2)
abbrev pub substitute : DomainName → ℕ → DomainName → DomainName
substitute name k target = record target { labels = take k name.labels ++ target.labels }

-- whether a name has more than 255 octets (RFC 1035 section 2.3.4), so that it is none
abbrev pub is_too_long : DomainName → Bool
is_too_long name = nat_lt 255 (name_len name.labels)

-- the CNAME that is synthesized from a DNAME record for a name (section 3.1): its class and TTL are those of the DNAME
abbrev pub cname_for : DomainName → DomainName → Record RData → Record RData
cname_for name target r = record r { name = name; rdata = rdata.CNAME target }
