use Rattle.std.proofs.Common.{◌≡◌, ◌+◌, ◌<◌, ◌∙◌, ℕ, List, length, get_or, drop, ap, rules}
use Rattle.wire_names.specs.rr.domain.DomainName.{DomainName}
use Rattle.wire_names.specs.representation.NameBytes.{wire_bytes}
use Rattle.wire_names.proofs.lemmas.rr.domain.FirstLabel.{rest_wire, rest_labels}
use Rattle.wire_names.proofs.rr.domain.name.Name.remove_first_label.Goals as goal

pub invariant_of-self : goal.invariant_of-self
invariant_of-self c =
    let bytes : List ℕ = wire_bytes c.self.inside.wire in
    let filled : 0 < length bytes = search rules in
    let first : 1 + c.from-label.result ≡ 1 + get_or bytes 0 0 = search rules in
    rest_wire bytes _ _ c.self.invariant filled first c.remove_front.ensures

pub returns : goal.returns
returns c =
    let bytes : List ℕ = wire_bytes c.self.inside.wire in
    let filled : 0 < length bytes = search rules in
    let first : 1 + c.from-label.result ≡ 1 + get_or bytes 0 0 = search rules in
    ap (λ (ls : List (List ℕ)). let d : DomainName = record { labels = ls; is_fqdn = c.self.inside.is_fqdn } in d) (rest_labels bytes _ _ c.self.invariant filled first c.remove_front.ensures)
    ∙ ap (λ (n : DomainName). let d : DomainName = record { labels = drop 1 n.labels; is_fqdn = n.is_fqdn } in d) c.self.view_is
