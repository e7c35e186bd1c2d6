use Rattle.std.proofs.Common.{◌≡◌}
use Rattle.server_limits.specs.declared.access_control.Family.TheVariants.{Ipv4, Ipv6}
use Rattle.server_limits.proofs.lemmas.Sets.{told, family_left, family_right, not_both}
use Rattle.server_limits.proofs.access_control.NetworkSet.has_family.Goals as goal

pub returns-in-Ipv4 : goal.returns-in-Ipv4
returns-in-Ipv4 c =
    let differ : ¬ (Ipv6 ≡ Ipv4) = λ e. absurd (cc) in
    rw (← c.self.view_is, c.in-Ipv4.is)
    (told c.is_empty.result c.self.inside.ipv4 _ c.is_empty.ensures (family_left Ipv4 c.self.inside.ipv4 c.self.inside.ipv6 (not_both Ipv4 Ipv6 c.self.inside.ipv6 c.self.invariant.1 differ) c.self.invariant.0))

pub returns-in-Ipv6 : goal.returns-in-Ipv6
returns-in-Ipv6 c =
    let differ : ¬ (Ipv4 ≡ Ipv6) = λ e. absurd (cc) in
    rw (← c.self.view_is, c.in-Ipv6.is)
    (told c.is_empty-in-Ipv6.result c.self.inside.ipv6 _ c.is_empty-in-Ipv6.ensures (family_right Ipv6 c.self.inside.ipv6 c.self.inside.ipv4 (not_both Ipv6 Ipv4 c.self.inside.ipv4 c.self.invariant.0 differ) c.self.invariant.1))
