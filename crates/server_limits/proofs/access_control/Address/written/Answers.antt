use Rattle.std.proofs.Common.{◌≡◌, ◌<◌, ◌^◌, ℕ, refl, subst, sym}
use Rattle.server_limits.specs.declared.access_control.Address.{Address}
use Rattle.server_limits.specs.declared.access_control.Family.{Family}
use Rattle.server_limits.specs.declared.access_control.Family.TheVariants.{Ipv4, Ipv6}
use Rattle.server_limits.specs.Access.{width}
use Rattle.server_limits.proofs.lemmas.NetworkText.{ipv4_back, ipv6_back}
use Rattle.server_limits.proofs.access_control.Address.written.Goals as goal

with_bits : (family : Family) (bits : ℕ) (a : Address) → a.family ≡ family → bits ≡ a.bits → record { family = family; bits = bits } ≡ a
with_bits family bits a e h = rw (sym e, h) refl

pub returns-in-Ipv4 : goal.returns-in-Ipv4
returns-in-Ipv4 c =
    let fits : c.args.self.bits < 2 ^ 32 = subst (λ f. c.args.self.bits < 2 ^ width f) c.in-Ipv4.is c.requires in
    with_bits Ipv4 _ c.args.self c.in-Ipv4.is (ipv4_back c.from_bits.result c.args.self.bits fits c.from_bits.ensures)

pub returns-in-Ipv6 : goal.returns-in-Ipv6
returns-in-Ipv6 c =
    let fits : c.args.self.bits < 2 ^ 128 = subst (λ f. c.args.self.bits < 2 ^ width f) c.in-Ipv6.is c.requires in
    with_bits Ipv6 _ c.args.self c.in-Ipv6.is (ipv6_back c.from_bits-in-Ipv6.result c.args.self.bits fits c.from_bits-in-Ipv6.ensures)
