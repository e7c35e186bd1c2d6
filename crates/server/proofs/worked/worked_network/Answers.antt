use Rattle.std.proofs.Common.{[], ◌∷◌, arith, codes, refl}
use Rattle.std.specs.Fmt.{digits}
use Rattle.std.specs.Net.Addr.{ipv4_bits}
use Rattle.std.specs.declared.net.ip_addr.IpAddr.TheVariants.{V4}
use Rattle.server_limits.specs.NetworkTexts.{prefix}
use Rattle.server.proofs.worked.worked_network.Goals as goal

pub returns-clause-network : goal.returns-clause-network
unfolding digits ipv4_bits
returns-clause-network c = prefix (codes "192.0.2.0") (codes "24") refl (record {
  address = V4 (record { octets = 192 ∷ 0 ∷ 2 ∷ 0 ∷ [] });
  spelled = record { a = 192; b = 0; c = 2; d = 0; fit = (omega arith, omega arith, omega arith, omega arith); value = refl; spelled = refl };
  counted = ((omega arith, (omega arith, (omega arith, tt))), refl);
  fits = omega arith;
  network_is = refl;
})

pub returns-clause-only : goal.returns-clause-only
returns-clause-only c network is = c.network_text_laws.ensures _ _ _ is (returns-clause-network c)
