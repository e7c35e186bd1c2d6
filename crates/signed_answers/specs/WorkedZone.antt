-- The zone of RFC 4035 appendix A, without its signatures and without some of its records, and what its replies of appendix
-- B show.
use Rattle.std.specs.Prelude.{ℕ, List, [], ◌∷◌, ◌++◌, codes}
use Rattle.wire_names.specs.rr.domain.DomainName.{DomainName, wire_form}
use Rattle.hickory_wire.specs.worked.Worked.{named, record_of}
use Rattle.wire_messages.specs.Numbers.{class_in, type_a, type_ds, type_mx, type_ns, type_nsec, type_rrsig, type_soa}
use Rattle.wire_messages.specs.declared.rr.rdata.RData.{RData}
use Rattle.wire_messages.specs.declared.rr.rdata.RData.TheVariants as rdata
use Rattle.wire_messages.specs.declared.rr.record.Record.{Record}
use Rattle.zone_answers.specs.Zones.{Records, Sets, Zone}
use Rattle.signed_answers.specs.NsecSets.{Rrset}

-- a name by its labels above `example.`
abbrev pub in_example : List (List ℕ) → DomainName
in_example labels = named (labels ++ codes "example" ∷ [])

abbrev pub apex : DomainName
apex = in_example []

abbrev pub of_a : DomainName
of_a = in_example (codes "a" ∷ [])

abbrev pub of_ai : DomainName
of_ai = in_example (codes "ai" ∷ [])

abbrev pub of_b : DomainName
of_b = in_example (codes "b" ∷ [])

abbrev pub of_ns1 : DomainName
of_ns1 = in_example (codes "ns1" ∷ [])

abbrev pub of_ns2 : DomainName
of_ns2 = in_example (codes "ns2" ∷ [])

abbrev pub of_wild : DomainName
of_wild = in_example (codes "*" ∷ codes "w" ∷ [])

abbrev pub of_xw : DomainName
of_xw = in_example (codes "x" ∷ codes "w" ∷ [])

abbrev pub of_xyw : DomainName
of_xyw = in_example (codes "x" ∷ codes "y" ∷ codes "w" ∷ [])

abbrev pub of_xx : DomainName
of_xx = in_example (codes "xx" ∷ [])

-- names that are asked for
abbrev pub ml : DomainName
ml = in_example (codes "ml" ∷ [])

abbrev pub mc_a : DomainName
mc_a = in_example (codes "mc" ∷ codes "a" ∷ [])

abbrev pub mc_b : DomainName
mc_b = in_example (codes "mc" ∷ codes "b" ∷ [])

abbrev pub azw : DomainName
azw = in_example (codes "a" ∷ codes "z" ∷ codes "w" ∷ [])

abbrev pub yw : DomainName
yw = in_example (codes "y" ∷ codes "w" ∷ [])

abbrev pub records : DomainName → RData → Records
records name content = record_of name class_in 3600 content ∷ []

abbrev pub rrset_of : DomainName → ℕ → RData → Rrset
rrset_of name t content = (record { name = name; record_type = t }, records name content)

abbrev pub address : RData
address = rdata.A (record { octets = 192 ∷ 0 ∷ 2 ∷ 1 ∷ [] })

abbrev pub server : RData
server = rdata.NS of_ns1

abbrev pub mail : RData
mail = rdata.MX (record { preference = 1; exchange = of_ai })

abbrev pub start : RData
start = rdata.SOA (record { mname = of_ns1; rname = of_b; serial = 1081539377; refresh = 3600; retry = 300; expire = 3600000; minimum = 3600 })

abbrev pub digest : RData
digest = rdata.Unknown type_ds (225 ∷ 9 ∷ 5 ∷ 1 ∷ [])

-- an NSEC RRset by the next name and the octets of window 0 of the type bit map
abbrev pub nsec : DomainName → DomainName → List ℕ → Rrset
nsec owner next bits = rrset_of owner type_nsec (rdata.Unknown type_nsec (wire_form next.labels ++ 0 ∷ 0 ∷ bits))

-- NS SOA MX RRSIG NSEC DNSKEY
abbrev pub at_apex : Rrset
at_apex = nsec apex of_a (7 ∷ 34 ∷ 1 ∷ 0 ∷ 0 ∷ 0 ∷ 3 ∷ 128 ∷ [])

-- NS DS RRSIG NSEC
abbrev pub at_a : Rrset
at_a = nsec of_a of_ai (6 ∷ 32 ∷ 0 ∷ 0 ∷ 0 ∷ 0 ∷ 19 ∷ [])

-- A RRSIG NSEC
abbrev pub at_ai : Rrset
at_ai = nsec of_ai of_b (6 ∷ 64 ∷ 0 ∷ 0 ∷ 0 ∷ 0 ∷ 3 ∷ [])

-- NS RRSIG NSEC
abbrev pub at_b : Rrset
at_b = nsec of_b of_ns1 (6 ∷ 32 ∷ 0 ∷ 0 ∷ 0 ∷ 0 ∷ 3 ∷ [])

abbrev pub at_ns1 : Rrset
at_ns1 = nsec of_ns1 of_ns2 (6 ∷ 64 ∷ 0 ∷ 0 ∷ 0 ∷ 0 ∷ 3 ∷ [])

abbrev pub at_ns2 : Rrset
at_ns2 = nsec of_ns2 of_wild (6 ∷ 64 ∷ 0 ∷ 0 ∷ 0 ∷ 0 ∷ 3 ∷ [])

-- MX RRSIG NSEC
abbrev pub at_wild : Rrset
at_wild = nsec of_wild of_xw (6 ∷ 0 ∷ 1 ∷ 0 ∷ 0 ∷ 0 ∷ 3 ∷ [])

abbrev pub at_xw : Rrset
at_xw = nsec of_xw of_xyw (6 ∷ 0 ∷ 1 ∷ 0 ∷ 0 ∷ 0 ∷ 3 ∷ [])

abbrev pub at_xyw : Rrset
at_xyw = nsec of_xyw of_xx (6 ∷ 0 ∷ 1 ∷ 0 ∷ 0 ∷ 0 ∷ 3 ∷ [])

abbrev pub at_xx : Rrset
at_xx = nsec of_xx apex (6 ∷ 64 ∷ 0 ∷ 0 ∷ 0 ∷ 0 ∷ 3 ∷ [])

abbrev pub zone : Zone
zone = record {
  origin = apex;
  sets =
      rrset_of apex type_ns server ∷ rrset_of apex type_soa start ∷ rrset_of apex type_mx mail ∷ at_apex
      ∷ rrset_of of_a type_ns server ∷ rrset_of of_a type_ds digest ∷ at_a
      ∷ rrset_of (in_example (codes "ns1" ∷ codes "a" ∷ [])) type_a address
      ∷ rrset_of of_ai type_a address ∷ at_ai
      ∷ rrset_of of_b type_ns server ∷ at_b
      ∷ rrset_of (in_example (codes "ns1" ∷ codes "b" ∷ [])) type_a address
      ∷ rrset_of of_ns1 type_a address ∷ at_ns1
      ∷ rrset_of of_ns2 type_a address ∷ at_ns2
      ∷ rrset_of of_wild type_mx mail ∷ at_wild
      ∷ rrset_of of_xw type_mx mail ∷ at_xw
      ∷ rrset_of of_xyw type_mx mail ∷ at_xyw
      ∷ rrset_of of_xx type_a address ∷ at_xx
      ∷ [];
}

-- an RRSIG record that covers a type, with the start of its data
abbrev pub signature : ℕ → DomainName → Record RData
signature t owner = record_of owner class_in 3600 (rdata.Unknown type_rrsig (0 ∷ t ∷ 5 ∷ 2 ∷ 0 ∷ 0 ∷ 14 ∷ 16 ∷ []))

-- RRSIG RRsets of b.example. and *.w.example.
abbrev pub signed : Sets
signed =
    (record { name = of_b; record_type = type_rrsig }, signature type_nsec of_b ∷ [])
    ∷ (record { name = of_wild; record_type = type_rrsig }, signature type_mx of_wild ∷ signature type_nsec of_wild ∷ [])
    ∷ []
