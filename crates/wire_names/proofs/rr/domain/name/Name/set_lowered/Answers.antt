use Rattle.std.proofs.Common.{rules, ◌≡◌, ◌∙◌, ap, map, List, ℕ}
use Rattle.std.specs.Char.{to_ascii_lowercase}
use Rattle.wire_names.specs.rr.domain.DomainName.{DomainName}
use Rattle.wire_names.specs.representation.NameBytes.{wire_bytes}
use Rattle.wire_names.specs.rr.domain.NameOrder.{lower_name}
use Rattle.wire_names.proofs.lemmas.rr.domain.Ends.{lowered_wire}
use Rattle.wire_names.proofs.rr.domain.name.Name.set_lowered.Goals as goal

pub invariant_of-self-2 : goal.invariant_of-self-2
invariant_of-self-2 c =
    let lowered : wire_bytes c.set_lowered.new.self ≡ map to_ascii_lowercase (wire_bytes c.name.inside.wire) = search rules in
    (lowered_wire _ _ c.name.invariant lowered).0

pub returns-clause-done : goal.returns-clause-done
returns-clause-done c = λ t.
    let lowered : wire_bytes c.set_lowered.new.self ≡ map to_ascii_lowercase (wire_bytes c.name.inside.wire) = search rules in
    ap (λ (ls : List (List ℕ)). let d : DomainName = record { labels = ls; is_fqdn = c.name.inside.is_fqdn } in d) (lowered_wire _ _ c.name.invariant lowered).1
    ∙ ap lower_name c.name.view_is
