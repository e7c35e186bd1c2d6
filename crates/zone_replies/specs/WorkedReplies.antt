-- Worked examples: questions of the zones that are written out, the SOA of their denials, and a root zone.
use Rattle.std.specs.Prelude.{[], ◌∷◌, codes}
use Rattle.wire_names.specs.rr.domain.DomainName.{DomainName}
use Rattle.wire_messages.specs.Numbers.{class_any, class_ch, class_in, type_a, type_mx, type_ns, type_soa, type_srv}
use Rattle.wire_messages.specs.declared.op.query.Query.{Query}
use Rattle.wire_messages.specs.declared.rr.rdata.RData.{RData}
use Rattle.wire_messages.specs.declared.rr.rdata.RData.TheVariants as rdata
use Rattle.wire_messages.specs.declared.rr.record.Record.{Record}
use Rattle.hickory_wire.specs.worked.Worked.{named, record_of, root}
use Rattle.zone_answers.specs.WorkedZones.{address, example, owned, server, soa, to_text}
use Rattle.zone_answers.specs.Zones.{Zone}

-- It may be kept for 300 seconds, which are fewer than the 3600 of the SOA itself.
abbrev pub denying_soa : Record RData
denying_soa = record_of example class_in 300 soa

-- HOST3.example., WWW.d.example. and WWW.t.example.
abbrev pub loud_host3 : DomainName
loud_host3 = named (codes "HOST3" ∷ codes "example" ∷ [])

abbrev pub loud_old : DomainName
loud_old = named (codes "WWW" ∷ codes "d" ∷ codes "example" ∷ [])

abbrev pub loud_new : DomainName
loud_new = named (codes "WWW" ∷ codes "t" ∷ codes "example" ∷ [])

-- text.example. of class CH
abbrev pub chaos : Query
chaos = record { name = to_text; query_type = type_a; query_class = class_ch }

-- text.example. of any class
abbrev pub of_any_class : Query
of_any_class = record { name = to_text; query_type = type_a; query_class = class_any }

-- net. and a.root-servers.net.
abbrev pub net : DomainName
net = named (codes "net" ∷ [])

abbrev pub root_server : DomainName
root_server = named (codes "a" ∷ codes "root-servers" ∷ codes "net" ∷ [])

-- 10 net.
abbrev pub root_mail : RData
root_mail = rdata.MX (record { preference = 10; exchange = net })

-- 0 0 53 net.
abbrev pub root_service : RData
root_service = rdata.Unknown type_srv (0 ∷ 0 ∷ 0 ∷ 0 ∷ 0 ∷ 53 ∷ 3 ∷ 110 ∷ 101 ∷ 116 ∷ 0 ∷ [])

-- a root zone whose server is below the cut net., which is a host too
abbrev pub priming : Zone
priming = record {
  origin = root;
  sets =
      (record { name = root; record_type = type_ns }, owned root (rdata.NS root_server) ∷ [])
      ∷ (record { name = root; record_type = type_soa }, owned root soa ∷ [])
      ∷ (record { name = root; record_type = type_mx }, owned root root_mail ∷ [])
      ∷ (record { name = root; record_type = type_srv }, owned root root_service ∷ [])
      ∷ (record { name = net; record_type = type_a }, owned net (address 5) ∷ [])
      ∷ (record { name = net; record_type = type_ns }, owned net (rdata.NS server) ∷ [])
      ∷ (record { name = root_server; record_type = type_a }, owned root_server (address 4) ∷ [])
      ∷ [];
}
