use Rattle.std.proofs.Common.{◌∙◌, ap, List, ℕ}
use Rattle.wire_names.specs.rr.domain.DomainName.{DomainName}
use Rattle.wire_names.specs.rr.domain.NameOrder.{lower_name}
use Rattle.wire_names.proofs.lemmas.rr.domain.Ends.{lowered_wire}
use Rattle.wire_names.proofs.rr.domain.name.Name.to_lowercase.Goals as goal

pub invariant_of-result : goal.invariant_of-result
invariant_of-result c = (lowered_wire _ _ c.self.invariant c.in_ok-lowered.ensures).0

pub returns : goal.returns
returns c =
    ap (λ (ls : List (List ℕ)). let d : DomainName = record { labels = ls; is_fqdn = c.self.inside.is_fqdn } in d) (lowered_wire _ _ c.self.invariant c.in_ok-lowered.ensures).1
    ∙ ap lower_name c.self.view_is
