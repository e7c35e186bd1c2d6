use Rattle.std.proofs.Common.{ℕ, List}
use Rattle.std.specs.Net.Grammar.{IsIpv6Text}
use Rattle.text_data.specs.declared.kinds.ItemKind.TheVariants as kind
use Rattle.text_data.specs.ServiceText.{HasNone, IsItem}
use Rattle.std.specs.Net.Addr.{ipv6_octets}
use Rattle.text_data.specs.ServiceText.IsItem.{ipv6}
use Rattle.text_data.proofs.items.put_ipv6.Goals as goal

pub returns-in_ok-extend_from_slice-in-Ok-clause-put : goal.returns-in_ok-extend_from_slice-in-Ok-clause-put
returns-in_ok-extend_from_slice-in-Ok-clause-put c = (ipv6_octets c.in-Ok.address, rw c.octets.ensures at c.in_ok-extend_from_slice-in-Ok.ensures.items, ipv6 c.in-Ok.ensures)

no_ipv6 : (t : List ℕ) → HasNone (IsIpv6Text t) → HasNone (IsItem kind.Ipv6 t)
no_ipv6 t none octets (ipv6 {address = a} is) = none a is

pub returns-in-Err-clause-refused : goal.returns-in-Err-clause-refused
returns-in-Err-clause-refused c = λ other. no_ipv6 c.args.text.now c.in-Err.ensures
