use Rattle.std.proofs.Common.{◌≡◌, ◌∙◌, ap, sym}
use Rattle.server_limits.specs.declared.access_control.Family.TheVariants.{Ipv4, Ipv6}
use Rattle.server_limits.specs.Access.{Network}
use Rattle.server_limits.proofs.lemmas.Sets.{grown_family, grown_left, grown_right}
use Rattle.server_limits.proofs.access_control.NetworkSet.insert_one.Goals as goal

pub invariant_of-self : goal.invariant_of-self
invariant_of-self c =
    let is : c.args.network.family ≡ Ipv4 = ap (λ (n : Network). n.family) (sym c.network.view_is) ∙ c.in-Ipv4.is in
    (grown_family c.insert.result c.args.network c.self.inside.ipv4 c.insert.new.self Ipv4 is c.insert.ensures.ok c.insert.ensures.err c.self.invariant.0, c.self.invariant.1)

pub invariant_of-self-in-Ipv6 : goal.invariant_of-self-in-Ipv6
invariant_of-self-in-Ipv6 c =
    let is : c.args.network.family ≡ Ipv6 = ap (λ (n : Network). n.family) (sym c.network.view_is) ∙ c.in-Ipv6.is in
    (c.self.invariant.0, grown_family c.insert-in-Ipv6.result c.args.network c.self.inside.ipv6 c.insert-in-Ipv6.new.self Ipv6 is c.insert-in-Ipv6.ensures.ok c.insert-in-Ipv6.ensures.err c.self.invariant.1)

pub returns-in-Ipv4-clause-ok : goal.returns-in-Ipv4-clause-ok
returns-in-Ipv4-clause-ok c =
    rw (← c.self.view_is) (grown_left c.insert.result c.args.network c.self.inside.ipv4 c.insert.new.self c.self.inside.ipv6 c.insert.ensures.ok)

pub returns-in-Ipv6-clause-ok : goal.returns-in-Ipv6-clause-ok
returns-in-Ipv6-clause-ok c =
    rw (← c.self.view_is) (grown_right c.insert-in-Ipv6.result c.args.network c.self.inside.ipv6 c.insert-in-Ipv6.new.self c.self.inside.ipv4 c.insert-in-Ipv6.ensures.ok)
