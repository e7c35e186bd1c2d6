-- Worked examples: the zone of RFC 4592 section 2.2.1, one of delegations and aliases, and what is asked of them,
-- written out by hand.
use Rattle.std.specs.Prelude.{ℕ, [], ◌∷◌, codes}
use Rattle.wire_names.specs.rr.domain.DomainName.{DomainName}
use Rattle.hickory_wire.specs.worked.Worked.{named, record_of}
use Rattle.wire_messages.specs.Numbers.{class_in, type_a, type_cname, type_mx, type_ns, type_soa, type_srv, type_txt}
use Rattle.wire_messages.specs.declared.rr.rdata.RData.{RData}
use Rattle.wire_messages.specs.declared.rr.rdata.RData.TheVariants as rdata
use Rattle.wire_messages.specs.declared.rr.record.Record.{Record}
use Rattle.zone_answers.specs.Zones.{Zone}

-- a record of class IN
abbrev pub owned : DomainName → RData → Record RData
owned name content = record_of name class_in 3600 content

-- 192.0.2.n
abbrev pub address : ℕ → RData
address n = rdata.A (record { octets = 192 ∷ 0 ∷ 2 ∷ n ∷ [] })

-- example.
abbrev pub example : DomainName
example = named (codes "example" ∷ [])

-- *.example.
abbrev pub any_name : DomainName
any_name = named (codes "*" ∷ codes "example" ∷ [])

-- sub.*.example.
abbrev pub sub_any : DomainName
sub_any = named (codes "sub" ∷ codes "*" ∷ codes "example" ∷ [])

-- host1.example.
abbrev pub host1 : DomainName
host1 = named (codes "host1" ∷ codes "example" ∷ [])

-- _ssh._tcp.host1.example.
abbrev pub ssh_host1 : DomainName
ssh_host1 = named (codes "_ssh" ∷ codes "_tcp" ∷ codes "host1" ∷ codes "example" ∷ [])

-- _ssh._tcp.host2.example.
abbrev pub ssh_host2 : DomainName
ssh_host2 = named (codes "_ssh" ∷ codes "_tcp" ∷ codes "host2" ∷ codes "example" ∷ [])

-- subdel.example.
abbrev pub subdel : DomainName
subdel = named (codes "subdel" ∷ codes "example" ∷ [])

-- host3.example.
abbrev pub host3 : DomainName
host3 = named (codes "host3" ∷ codes "example" ∷ [])

-- foo.bar.example.
abbrev pub foo_bar : DomainName
foo_bar = named (codes "foo" ∷ codes "bar" ∷ codes "example" ∷ [])

-- _telnet._tcp.host1.example.
abbrev pub telnet_host1 : DomainName
telnet_host1 = named (codes "_telnet" ∷ codes "_tcp" ∷ codes "host1" ∷ codes "example" ∷ [])

-- _tcp.host1.example.
abbrev pub tcp_host1 : DomainName
tcp_host1 = named (codes "_tcp" ∷ codes "host1" ∷ codes "example" ∷ [])

-- host.subdel.example.
abbrev pub host_subdel : DomainName
host_subdel = named (codes "host" ∷ codes "subdel" ∷ codes "example" ∷ [])

-- ghost.*.example.
abbrev pub ghost_any : DomainName
ghost_any = named (codes "ghost" ∷ codes "*" ∷ codes "example" ∷ [])

-- ns.example.com.
abbrev pub server : DomainName
server = named (codes "ns" ∷ codes "example" ∷ codes "com" ∷ [])

-- an SOA by which denials may be kept for five minutes
abbrev pub soa : RData
soa = rdata.SOA (record { mname = server; rname = server; serial = 7; refresh = 3600; retry = 1800; expire = 604800; minimum = 300 })

-- "this is a wildcard", and "this is not a wildcard"
abbrev pub text : RData
text = rdata.TXT (codes "this is a wildcard" ∷ [])

abbrev pub other_text : RData
other_text = rdata.TXT (codes "this is not a wildcard" ∷ [])

-- 10 host1.example.
abbrev pub mail : RData
mail = rdata.MX (record { preference = 10; exchange = host1 })

-- 0 0 22 host1.example.
abbrev pub service : RData
service = rdata.Unknown type_srv (0 ∷ 0 ∷ 0 ∷ 0 ∷ 0 ∷ 22 ∷ 5 ∷ 104 ∷ 111 ∷ 115 ∷ 116 ∷ 49 ∷ 7 ∷ 101 ∷ 120 ∷ 97 ∷ 109 ∷ 112 ∷ 108 ∷ 101 ∷ 0 ∷ [])

-- the zone of RFC 4592 section 2.2.1
abbrev pub wildcards : Zone
wildcards = record {
  origin = example;
  sets =
      (record { name = example; record_type = type_ns }, owned example (rdata.NS server) ∷ [])
      ∷ (record { name = example; record_type = type_soa }, owned example soa ∷ [])
      ∷ (record { name = any_name; record_type = type_mx }, owned any_name mail ∷ [])
      ∷ (record { name = any_name; record_type = type_txt }, owned any_name text ∷ [])
      ∷ (record { name = sub_any; record_type = type_txt }, owned sub_any other_text ∷ [])
      ∷ (record { name = host1; record_type = type_a }, owned host1 (address 1) ∷ [])
      ∷ (record { name = ssh_host1; record_type = type_srv }, owned ssh_host1 service ∷ [])
      ∷ (record { name = ssh_host2; record_type = type_srv }, owned ssh_host2 service ∷ [])
      ∷ (record { name = subdel; record_type = type_ns }, owned subdel (rdata.NS server) ∷ [])
      ∷ [];
}

-- child.example.
abbrev pub child : DomainName
child = named (codes "child" ∷ codes "example" ∷ [])

-- ns.child.example.
abbrev pub ns_child : DomainName
ns_child = named (codes "ns" ∷ codes "child" ∷ codes "example" ∷ [])

-- grand.child.example.
abbrev pub grandchild : DomainName
grandchild = named (codes "grand" ∷ codes "child" ∷ codes "example" ∷ [])

-- www.grand.child.example.
abbrev pub deep : DomainName
deep = named (codes "www" ∷ codes "grand" ∷ codes "child" ∷ codes "example" ∷ [])

-- first.example.
abbrev pub first_alias : DomainName
first_alias = named (codes "first" ∷ codes "example" ∷ [])

-- second.example.
abbrev pub second_alias : DomainName
second_alias = named (codes "second" ∷ codes "example" ∷ [])

-- text.example.
abbrev pub to_text : DomainName
to_text = named (codes "text" ∷ codes "example" ∷ [])

-- nobody.example.
abbrev pub to_nobody : DomainName
to_nobody = named (codes "nobody" ∷ codes "example" ∷ [])

-- nx.example.
abbrev pub nobody : DomainName
nobody = named (codes "nx" ∷ codes "example" ∷ [])

-- www.child.example.
abbrev pub to_child : DomainName
to_child = named (codes "www" ∷ codes "child" ∷ codes "example" ∷ [])

-- into.example.
abbrev pub into_child : DomainName
into_child = named (codes "into" ∷ codes "example" ∷ [])

-- away.example.
abbrev pub away : DomainName
away = named (codes "away" ∷ codes "example" ∷ [])

-- itself.example.
abbrev pub itself_alias : DomainName
itself_alias = named (codes "itself" ∷ codes "example" ∷ [])

-- ping.example.
abbrev pub ping : DomainName
ping = named (codes "ping" ∷ codes "example" ∷ [])

-- pong.example.
abbrev pub pong : DomainName
pong = named (codes "pong" ∷ codes "example" ∷ [])

-- a zone of two cuts, one under the other, with glue that the upper one hides, and of aliases
abbrev pub cuts : Zone
cuts = record {
  origin = example;
  sets =
      (record { name = example; record_type = type_ns }, owned example (rdata.NS server) ∷ [])
      ∷ (record { name = example; record_type = type_soa }, owned example soa ∷ [])
      ∷ (record { name = away; record_type = type_cname }, owned away (rdata.CNAME server) ∷ [])
      ∷ (record { name = child; record_type = type_ns }, owned child (rdata.NS ns_child) ∷ [])
      ∷ (record { name = ns_child; record_type = type_a }, owned ns_child (address 53) ∷ [])
      ∷ (record { name = grandchild; record_type = type_ns }, owned grandchild (rdata.NS server) ∷ [])
      ∷ (record { name = first_alias; record_type = type_cname }, owned first_alias (rdata.CNAME second_alias) ∷ [])
      ∷ (record { name = into_child; record_type = type_cname }, owned into_child (rdata.CNAME to_child) ∷ [])
      ∷ (record { name = itself_alias; record_type = type_cname }, owned itself_alias (rdata.CNAME itself_alias) ∷ [])
      ∷ (record { name = to_nobody; record_type = type_cname }, owned to_nobody (rdata.CNAME nobody) ∷ [])
      ∷ (record { name = ping; record_type = type_cname }, owned ping (rdata.CNAME pong) ∷ [])
      ∷ (record { name = pong; record_type = type_cname }, owned pong (rdata.CNAME ping) ∷ [])
      ∷ (record { name = second_alias; record_type = type_cname }, owned second_alias (rdata.CNAME to_text) ∷ [])
      ∷ (record { name = to_text; record_type = type_txt }, owned to_text text ∷ [])
      ∷ [];
}
