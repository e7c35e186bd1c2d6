use Rattle.std.proofs.Common.{ℕ, List}
use Rattle.std.specs.Net.Grammar.{IsIpv4Text}
use Rattle.text_data.specs.declared.kinds.ItemKind.TheVariants as kind
use Rattle.text_data.specs.ServiceText.{HasNone, IsItem}
use Rattle.std.specs.Net.Addr.{ipv4_octets}
use Rattle.text_data.specs.ServiceText.IsItem.{ipv4}
use Rattle.text_data.proofs.items.put_ipv4.Goals as goal

pub returns-in_ok-extend_from_slice-in-Ok-clause-put : goal.returns-in_ok-extend_from_slice-in-Ok-clause-put
returns-in_ok-extend_from_slice-in-Ok-clause-put c = (ipv4_octets c.in-Ok.address, rw c.octets.ensures at c.in_ok-extend_from_slice-in-Ok.ensures.items, ipv4 c.in-Ok.ensures)

no_ipv4 : (t : List ℕ) → HasNone (IsIpv4Text t) → HasNone (IsItem kind.Ipv4 t)
no_ipv4 t none octets (ipv4 {address = a} is) = none a is

pub returns-in-Err-clause-refused : goal.returns-in-Err-clause-refused
returns-in-Err-clause-refused c = λ other. no_ipv4 c.args.text.now c.in-Err.ensures
