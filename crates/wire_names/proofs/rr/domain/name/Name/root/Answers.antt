use Rattle.std.proofs.Common.{[], List, ℕ, ap, sym, subst, ◌∙◌, true}
use Rattle.wire_names.specs.rr.domain.DomainName.{DomainName, IsWire, cut}
use Rattle.wire_names.proofs.lemmas.rr.domain.WireForm.{is_wire, cut-wire, no_labels}
use Rattle.wire_names.proofs.rr.domain.name.Name.root.Goals as goal

pub invariant_of-result : goal.invariant_of-result
invariant_of-result c = subst IsWire (sym c.new.ensures) (is_wire [] no_labels)

pub returns : goal.returns
returns c = ap (λ (ls : List (List ℕ)). let d : DomainName = record { labels = ls; is_fqdn = true } in d) (ap cut c.new.ensures ∙ cut-wire [])
