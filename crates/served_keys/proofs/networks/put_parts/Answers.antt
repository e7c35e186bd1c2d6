use Rattle.std.proofs.Common.{◌≡◌, ◌∷◌, [], ap, arith, refl, sym}
use Rattle.std.specs.Net.Addr.{ipv4_bits, ipv4_octets, ipv6_bits, ipv6_segments}
use Rattle.std.specs.declared.net.ip_addr.IpAddr.{IpAddr}
use Rattle.std.specs.declared.net.ip_addr.IpAddr.TheVariants.{V4, V6}
use Rattle.std.specs.declared.net.ipv4_addr.Ipv4Addr.{Ipv4Addr}
use Rattle.std.specs.declared.net.ipv6_addr.Ipv6Addr.{Ipv6Addr}
use Rattle.server_limits.specs.Access.{Network, address_of, network_of}
use Rattle.server_limits.specs.declared.access_control.Family.TheVariants.{Ipv4, Ipv6}
use Rattle.served_keys.specs.ServedKeys.{half_of, parts_of}
use Rattle.served_keys.proofs.networks.put_parts.Goals as goal

-- A network of all addresses has the halves of its family.
are_halves : (network : Network) (address : IpAddr) → network.prefix_length ≡ 0 → network_of (address_of address) network.prefix_length ≡ network
    → parts_of network ≡ half_of (address_of address).family 0 ∷ half_of (address_of address).family 1 ∷ []
are_halves network address zero lies =
    let family : network.family ≡ (address_of address).family = sym (ap (λ (it : Network). it.family) lies) in
    rw (zero, family) refl

low4 : (a : Ipv4Addr) → ipv4_octets a ≡ 0 ∷ 0 ∷ 0 ∷ 0 ∷ [] → network_of (address_of (V4 a)) 1 ≡ half_of Ipv4 0
unfolding ipv4_bits
low4 a is = rw is refl

high4 : (a : Ipv4Addr) → ipv4_octets a ≡ 128 ∷ 0 ∷ 0 ∷ 0 ∷ [] → network_of (address_of (V4 a)) 1 ≡ half_of Ipv4 1
unfolding ipv4_bits
high4 a is = rw is refl

low6 : (a : Ipv6Addr) → ipv6_segments a ≡ 0 ∷ 0 ∷ 0 ∷ 0 ∷ 0 ∷ 0 ∷ 0 ∷ 0 ∷ [] → network_of (address_of (V6 a)) 1 ≡ half_of Ipv6 0
unfolding ipv6_bits
low6 a is = rw is refl

high6 : (a : Ipv6Addr) → ipv6_segments a ≡ 0x8000 ∷ 0 ∷ 0 ∷ 0 ∷ 0 ∷ 0 ∷ 0 ∷ 0 ∷ [] → network_of (address_of (V6 a)) 1 ≡ half_of Ipv6 1
unfolding ipv6_bits
high6 a is = rw is refl

pub returns-in-V4 : goal.returns-in-V4
returns-in-V4 c =
    let zero : c.args.network.prefix_length ≡ 0 = omega (arith, c.if-prefix_len-gt0.false, c.prefix_len.ensures) in
    rw (are_halves c.args.network (V4 c.in-V4.field-0) zero c.in-V4.ensures.lies)
    (rw (low4 _ refl, high4 _ c.new.ensures) at c.put_halves.ensures)

pub returns-in-V6 : goal.returns-in-V6
returns-in-V6 c =
    let zero : c.args.network.prefix_length ≡ 0 = omega (arith, c.if-prefix_len-gt0.false, c.prefix_len.ensures) in
    rw (are_halves c.args.network (V6 c.in-V6.field-0) zero c.in-V6.ensures.lies)
    (rw (low6 _ refl, high6 _ c.new-in-V6.ensures) at c.put_halves-in-V6.ensures)
