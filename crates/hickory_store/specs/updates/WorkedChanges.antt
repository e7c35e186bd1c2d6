-- Worked examples: what updates do to the zone of WorkedUpdates, written out by hand.
use Rattle.std.specs.Prelude.{ℕ, Bool, true, false, List, [], ◌∷◌, codes}
use Rattle.wire_names.specs.rr.domain.DomainName.{DomainName}
use Rattle.hickory_wire.specs.worked.Worked.{named, record_of}
use Rattle.wire_messages.specs.Numbers.{class_any, class_in, class_none, type_any}
use Rattle.wire_messages.specs.declared.rr.rdata.RData.{RData}
use Rattle.wire_messages.specs.declared.rr.rdata.RData.TheVariants as rdata
use Rattle.wire_messages.specs.declared.rr.record.Record.{Record}
use Rattle.hickory_store.specs.updates.UpdateAnswers.{Outcome, applied}
use Rattle.hickory_store.specs.updates.WorkedUpdates.{address, asked, origin, server, www}

-- c.example.com., and serialtest.example.com.
abbrev pub alias : DomainName
alias = named (codes "c" ∷ codes "example" ∷ codes "com" ∷ [])

abbrev pub added : DomainName
added = named (codes "serialtest" ∷ codes "example" ∷ codes "com" ∷ [])

-- the zone's SOA with this serial
abbrev pub soa_of : ℕ → RData
soa_of serial = rdata.SOA (record {
  mname = server;
  rname = named (codes "admin" ∷ codes "example" ∷ codes "com" ∷ []);
  serial = serial;
  refresh = 3600;
  retry = 1800;
  expire = 604800;
  minimum = 86400;
})

abbrev pub apex_soa : ℕ → Record RData
apex_soa serial = record_of origin class_in 3600 (soa_of serial)

-- the records of the zone but for its SOA and the addresses of its apex
abbrev pub ns : Record RData
ns = record_of origin class_in 3600 (rdata.NS server)

abbrev pub apex_address : ℕ → Record RData
apex_address ttl = record_of origin class_in ttl (address 1)

abbrev pub hosts : List (Record RData)
hosts = record_of www class_in 3600 (address 10) ∷ record_of www class_in 3600 (address 11) ∷ []

-- the zone with another serial
abbrev pub zone_at : ℕ → List (Record RData)
zone_at serial = apex_soa serial ∷ ns ∷ apex_address 3600 ∷ hosts

-- what an update of it does, as in the crate, with the serial incremented or not
abbrev pub updated : ℕ → List (Record RData) → Bool → Outcome
updated serial updates increments = applied false origin (zone_at serial) updates increments

-- a CNAME, an address beside it, and then all of its name deleted
abbrev pub comes_and_goes : List (Record RData)
comes_and_goes = record_of alias class_in 3600 (rdata.CNAME www) ∷ record_of alias class_in 3600 (address 12) ∷ asked alias class_any type_any ∷ []

-- to delete the record with these data
abbrev pub deletes : DomainName → RData → Record RData
deletes name content = record_of name class_none 0 content

-- www.example.com. with an address and this TTL
abbrev pub www_with : ℕ → ℕ → Record RData
www_with n ttl = record_of www class_in ttl (address n)

-- the delegation of c.example.com.
abbrev pub delegation : Record RData
delegation = record_of alias class_in 3600 (rdata.NS server)

-- what an update of a zone does, with the serial incremented, as in the crate and by the RFCs
abbrev pub in_crate : List (Record RData) → List (Record RData) → Outcome
in_crate zone updates = applied false origin zone updates true

abbrev pub by_rfc : List (Record RData) → List (Record RData) → Outcome
by_rfc zone updates = applied true origin zone updates true
