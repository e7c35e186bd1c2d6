-- Worked examples: a zone, and records that updates of it may have, written out by hand.
use Rattle.std.specs.Prelude.{ℕ, List, [], ◌∷◌, Option, map, codes}
use Rattle.wire_names.specs.rr.domain.DomainName.{DomainName}
use Rattle.hickory_wire.specs.worked.Worked.{named, record_of}
use Rattle.wire_messages.specs.Numbers.{class_in, type_a, type_any, type_axfr, type_ixfr, type_maila, type_mailb, type_mx, type_soa}
use Rattle.wire_messages.specs.declared.rr.rdata.RData.{RData}
use Rattle.wire_messages.specs.declared.rr.rdata.RData.TheVariants as rdata
use Rattle.wire_messages.specs.declared.rr.record.Record.{Record}
use Rattle.hickory_store.specs.updates.Prerequisites.{prerequisite_refusal, prerequisite_section_refusal}
use Rattle.hickory_store.specs.updates.Prescan.{update_refusal}

-- example.com.
abbrev pub origin : DomainName
origin = named (codes "example" ∷ codes "com" ∷ [])

-- www.example.com.
abbrev pub www : DomainName
www = named (codes "www" ∷ codes "example" ∷ codes "com" ∷ [])

-- WWW.Example.COM.
abbrev pub www_in_capitals : DomainName
www_in_capitals = named (codes "WWW" ∷ codes "Example" ∷ codes "COM" ∷ [])

-- nx.example.com.
abbrev pub nx : DomainName
nx = named (codes "nx" ∷ codes "example" ∷ codes "com" ∷ [])

-- test.org.
abbrev pub outside : DomainName
outside = named (codes "test" ∷ codes "org" ∷ [])

-- ns.example.com.
abbrev pub server : DomainName
server = named (codes "ns" ∷ codes "example" ∷ codes "com" ∷ [])

abbrev pub soa : RData
soa = rdata.SOA (record {
  mname = server;
  rname = named (codes "admin" ∷ codes "example" ∷ codes "com" ∷ []);
  serial = 7;
  refresh = 3600;
  retry = 1800;
  expire = 604800;
  minimum = 86400;
})

-- 192.0.2.n
abbrev pub address : ℕ → RData
address n = rdata.A (record { octets = 192 ∷ 0 ∷ 2 ∷ n ∷ [] })

abbrev pub zone : List (Record RData)
zone =
    record_of origin class_in 3600 soa
    ∷ record_of origin class_in 3600 (rdata.NS server)
    ∷ record_of origin class_in 3600 (address 1)
    ∷ record_of www class_in 3600 (address 10)
    ∷ record_of www class_in 3600 (address 11)
    ∷ []

-- a record of this name, class and type without data, and with TTL 0
abbrev pub asked : DomainName → ℕ → ℕ → Record RData
asked name class record_type = record_of name class 0 (rdata.Update0 record_type)

-- one with a byte of data
abbrev pub with_data : DomainName → ℕ → ℕ → Record RData
with_data name class record_type = record_of name class 0 (rdata.Unknown record_type (0 ∷ []))

-- of the zone's class, with an address
abbrev pub at_address : DomainName → ℕ → Record RData
at_address name n = record_of name class_in 0 (address n)

-- what a list of prerequisites is answered
abbrev pub required : List (Record RData) → Option ℕ
required records = prerequisite_section_refusal origin zone records

-- what one prerequisite without data is answered, for each type
abbrev pub required_of : DomainName → ℕ → List ℕ → List (Option ℕ)
required_of name class types = map (λ t. prerequisite_refusal origin zone (asked name class t)) types

-- what one change is answered, without data and with them, for each type
abbrev pub scanned_empty : ℕ → List ℕ → List (Option ℕ)
scanned_empty class types = map (λ t. update_refusal origin (asked www class t)) types

abbrev pub scanned_full : ℕ → List ℕ → List (Option ℕ)
scanned_full class types = map (λ t. update_refusal origin (with_data www class t)) types

-- each kind of type; 65280 is nobody's
abbrev pub types : List ℕ
types = type_a ∷ type_soa ∷ type_mx ∷ 65280 ∷ type_ixfr ∷ type_axfr ∷ type_mailb ∷ type_maila ∷ type_any ∷ []
