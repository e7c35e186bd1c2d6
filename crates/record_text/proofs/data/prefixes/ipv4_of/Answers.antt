use Rattle.std.proofs.Common.{◌≡◌, ◌∙◌, ℕ, List, [], ◌++◌, sym, ap, subst}
use Rattle.std.specs.Net.Addr.{ipv4_octets}
use Rattle.std.specs.Net.Grammar.{IsIpv4Text}
use Rattle.std.specs.declared.net.ipv4_addr.Ipv4Addr.{Ipv4Addr}
use Rattle.record_text.specs.Prefixes.{IsAddressOf}
use Rattle.record_text.specs.Prefixes.IsAddressOf.{ipv4}
use Rattle.record_text.specs.RecordText.{HasNone}
use Rattle.record_text.proofs.data.prefixes.ipv4_of.Goals as goal

as_address : (t : List ℕ) (a : Ipv4Addr) (octets old new : List ℕ) → octets ≡ ipv4_octets a → old ≡ [] → new ≡ old ++ octets → IsIpv4Text t a → IsAddressOf 1 t new
as_address t a octets old new d e f is = subst (IsAddressOf 1 t) (sym (f ∙ ap (λ (xs : List ℕ). xs ++ octets) e ∙ d)) (ipv4 is)

no_address : (t : List ℕ) → ((a : Ipv4Addr) → IsIpv4Text t a → ⊥) → HasNone (IsAddressOf 1 t)
no_address t none octets (ipv4 {address = a} is) = none a is

pub returns-in_ok-extend_from_slice-in-Ok-clause-spelled : goal.returns-in_ok-extend_from_slice-in-Ok-clause-spelled
returns-in_ok-extend_from_slice-in-Ok-clause-spelled c = as_address c.args.text.now c.in-Ok.address c.octets.result c.new-octets.result.items c.extend_from_slice.new.self.items c.octets.ensures c.new-octets.ensures.items c.in_ok-extend_from_slice-in-Ok.ensures.items c.in-Ok.ensures

pub returns-in-Err-clause-refused : goal.returns-in-Err-clause-refused
returns-in-Err-clause-refused c = λ other. no_address c.args.text.now c.in-Err.ensures
