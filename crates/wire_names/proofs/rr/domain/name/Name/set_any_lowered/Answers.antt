use Rattle.std.proofs.Common.{◌≡◌, ◌∙◌, ap, map, List, ℕ}
use Rattle.std.specs.Char.{to_ascii_lowercase}
use Rattle.wire_names.specs.rr.domain.DomainName.{DomainName}
use Rattle.wire_names.specs.representation.NameBytes.{wire_bytes}
use Rattle.wire_names.specs.rr.domain.NameOrder.{lower_name}
use Rattle.wire_names.proofs.lemmas.rr.domain.Ends.{lowered_wire}
use Rattle.wire_names.proofs.rr.domain.name.Name.set_any_lowered.Goals as goal

pub invariant_of-self-2 : goal.invariant_of-self-2
invariant_of-self-2 c =
    let lowered : wire_bytes c.set_any_lowered.new.self ≡ map to_ascii_lowercase (wire_bytes c.name.inside.wire) = c.in_ok-set_any_lowered.ensures.done in
    (lowered_wire _ _ c.name.invariant lowered).0

pub returns : goal.returns
returns c =
    let lowered : wire_bytes c.set_any_lowered.new.self ≡ map to_ascii_lowercase (wire_bytes c.name.inside.wire) = c.in_ok-set_any_lowered.ensures.done in
    ap (λ (ls : List (List ℕ)). let d : DomainName = record { labels = ls; is_fqdn = c.name.inside.is_fqdn } in d) (lowered_wire _ _ c.name.invariant lowered).1
    ∙ ap lower_name c.name.view_is
