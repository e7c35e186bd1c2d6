use Rattle.std.proofs.Common.{List, ℕ, refl}
use Rattle.std.specs.Net.Grammar.{IsIpText}
use Rattle.std.specs.declared.net.ip_addr.IpAddr.{IpAddr}
use Rattle.std.specs.declared.net.ipv6_addr.Ipv6Addr.{Ipv6Addr}
use Rattle.zone_serve.specs.Peers.{IsInBrackets, IsPeerText, bracketed, plain}
use Rattle.zone_serve.proofs.peer.address.Goals as goal

none : (text : List ℕ) → ((a : IpAddr) → ¬ (IsIpText text a)) → ((a : Ipv6Addr) → ¬ (IsInBrackets text a)) → (address : IpAddr) → ¬ (IsPeerText text address)
none text no_plain no_inside address (plain is) = no_plain address is
none text no_plain no_inside address (bracketed {inside = a} same is) = no_inside a is

pub returns-in-Some : goal.returns-in-Some
returns-in-Some c = bracketed refl c.in-Some.ensures

pub returns-in-None : goal.returns-in-None
returns-in-None c = none c.args.text.now c.in-Err.ensures.value c.in-None.ensures
