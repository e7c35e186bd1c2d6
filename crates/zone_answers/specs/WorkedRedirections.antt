-- Worked examples of DNAME: a zone with names that it redirects, and the table of RFC 6672 section 2.2, written out by
-- hand.
use Rattle.std.specs.Prelude.{◌≡◌, ℕ, [], ◌∷◌, ◌++◌, codes, replicate}
use Rattle.wire_names.specs.rr.domain.DomainName.{DomainName}
use Rattle.hickory_wire.specs.worked.Worked.{named, record_of, root}
use Rattle.wire_messages.specs.Numbers.{class_in, type_a, type_cname, type_dname, type_ns, type_soa}
use Rattle.wire_messages.specs.declared.rr.rdata.RData.{RData}
use Rattle.wire_messages.specs.declared.rr.rdata.RData.TheVariants as rdata
use Rattle.wire_messages.specs.declared.rr.record.Record.{Record}
use Rattle.zone_answers.specs.Redirections.{substitute}
use Rattle.zone_answers.specs.WorkedZones.{address, example, owned, server, soa}
use Rattle.zone_answers.specs.Zones.{Redirects, Zone}

-- d.example.
abbrev pub old_home : DomainName
old_home = named (codes "d" ∷ codes "example" ∷ [])

-- t.example.
abbrev pub new_home : DomainName
new_home = named (codes "t" ∷ codes "example" ∷ [])

-- www.d.example.
abbrev pub www_old : DomainName
www_old = named (codes "www" ∷ codes "d" ∷ codes "example" ∷ [])

-- www.t.example.
abbrev pub www_new : DomainName
www_new = named (codes "www" ∷ codes "t" ∷ codes "example" ∷ [])

-- back.d.example.
abbrev pub back_old : DomainName
back_old = named (codes "back" ∷ codes "d" ∷ codes "example" ∷ [])

-- back.t.example.
abbrev pub back_new : DomainName
back_new = named (codes "back" ∷ codes "t" ∷ codes "example" ∷ [])

-- nx.d.example.
abbrev pub nobody_old : DomainName
nobody_old = named (codes "nx" ∷ codes "d" ∷ codes "example" ∷ [])

-- nx.t.example.
abbrev pub nobody_new : DomainName
nobody_new = named (codes "nx" ∷ codes "t" ∷ codes "example" ∷ [])

-- low.d.example.
abbrev pub low : DomainName
low = named (codes "low" ∷ codes "d" ∷ codes "example" ∷ [])

-- www.low.d.example.
abbrev pub www_low : DomainName
www_low = named (codes "www" ∷ codes "low" ∷ codes "d" ∷ codes "example" ∷ [])

-- cut.d.example.
abbrev pub cut_old : DomainName
cut_old = named (codes "cut" ∷ codes "d" ∷ codes "example" ∷ [])

-- sub.example.
abbrev pub sub : DomainName
sub = named (codes "sub" ∷ codes "example" ∷ [])

-- d.sub.example.
abbrev pub home_sub : DomainName
home_sub = named (codes "d" ∷ codes "sub" ∷ codes "example" ∷ [])

-- www.d.sub.example.
abbrev pub www_sub : DomainName
www_sub = named (codes "www" ∷ codes "d" ∷ codes "sub" ∷ codes "example" ∷ [])

-- self.example.
abbrev pub self : DomainName
self = named (codes "self" ∷ codes "example" ∷ [])

-- a.self.example.
abbrev pub a_self : DomainName
a_self = named (codes "a" ∷ codes "self" ∷ codes "example" ∷ [])

-- long.example., with three labels of 63 octets in front
abbrev pub long : DomainName
long = named (codes "long" ∷ codes "example" ∷ [])

abbrev pub below_long : DomainName
below_long = named (replicate 63 120 ∷ replicate 63 120 ∷ replicate 63 120 ∷ codes "long" ∷ codes "example" ∷ [])

-- a label of so many octets before example.
abbrev pub far : ℕ → DomainName
far n = named (replicate n 121 ∷ codes "example" ∷ [])

-- the octets of t.example., self.example. and the name with a label of 54 octets, as DNAME data (section 2.1)
abbrev pub to_new_home : RData
to_new_home = rdata.Unknown type_dname (1 ∷ 116 ∷ 7 ∷ 101 ∷ 120 ∷ 97 ∷ 109 ∷ 112 ∷ 108 ∷ 101 ∷ 0 ∷ [])

abbrev pub to_self : RData
to_self = rdata.Unknown type_dname (4 ∷ 115 ∷ 101 ∷ 108 ∷ 102 ∷ 7 ∷ 101 ∷ 120 ∷ 97 ∷ 109 ∷ 112 ∷ 108 ∷ 101 ∷ 0 ∷ [])

abbrev pub to_far : RData
to_far = rdata.Unknown type_dname (54 ∷ (replicate 54 121 ++ 7 ∷ 101 ∷ 120 ∷ 97 ∷ 109 ∷ 112 ∷ 108 ∷ 101 ∷ 0 ∷ []))

-- d.example. 600 IN DNAME t.example.
abbrev pub moved : Record RData
moved = record_of old_home class_in 600 to_new_home

-- the CNAME that it makes, of its TTL
abbrev pub made : DomainName → DomainName → Record RData
made name target = record_of name class_in 600 (rdata.CNAME target)

-- a zone of names that are redirected, with records below a DNAME, which are occluded, and a DNAME below a cut
abbrev pub redirecting : Zone
redirecting = record {
  origin = example;
  sets =
      (record { name = example; record_type = type_ns }, owned example (rdata.NS server) ∷ [])
      ∷ (record { name = example; record_type = type_soa }, owned example soa ∷ [])
      ∷ (record { name = old_home; record_type = type_a }, owned old_home (address 1) ∷ [])
      ∷ (record { name = old_home; record_type = type_dname }, moved ∷ [])
      ∷ (record { name = cut_old; record_type = type_ns }, owned cut_old (rdata.NS server) ∷ [])
      ∷ (record { name = low; record_type = type_dname }, owned low to_self ∷ [])
      ∷ (record { name = long; record_type = type_dname }, owned long to_far ∷ [])
      ∷ (record { name = self; record_type = type_dname }, owned self to_self ∷ [])
      ∷ (record { name = sub; record_type = type_ns }, owned sub (rdata.NS server) ∷ [])
      ∷ (record { name = home_sub; record_type = type_dname }, owned home_sub to_new_home ∷ [])
      ∷ (record { name = back_new; record_type = type_cname }, owned back_new (rdata.CNAME www_old) ∷ [])
      ∷ (record { name = www_new; record_type = type_a }, owned www_new (address 2) ∷ [])
      ∷ [];
}

-- a zone whose apex is redirected
abbrev pub redirecting_apex : Zone
redirecting_apex = record {
  origin = example;
  sets =
      (record { name = example; record_type = type_ns }, owned example (rdata.NS server) ∷ [])
      ∷ (record { name = example; record_type = type_dname }, owned example to_new_home ∷ [])
      ∷ [];
}

-- all names, of which one owns a DNAME
abbrev pub one_dname : DomainName → Zone
one_dname owner = record { origin = root; sets = (record { name = owner; record_type = type_dname }, owned owner to_new_home ∷ []) ∷ [] }

-- a row of the table: a DNAME of this owner and target makes this of the name
pub record Makes (name owner target result : DomainName) : Type 0 where
  pub kept : ℕ
  pub redirects : Redirects (one_dname owner) name kept
  pub makes : substitute name kept target ≡ result

-- a row without a match: no DNAME of this owner redirects the name
abbrev pub MakesNothing : DomainName → DomainName → Type 0
MakesNothing name owner = (k : ℕ) → ¬ (Redirects (one_dname owner) name k)
