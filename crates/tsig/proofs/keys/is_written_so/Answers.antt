-- Names of the same wire form have the same labels.
use Rattle.std.proofs.Common.{◌≡◌, ap, sym, ◌∙◌, rules}
use Rattle.std.proofs.lemmas.Slice.Eq.{bytes_eq-Decides}
use Rattle.wire_names.specs.rr.domain.DomainName.{cut, wire_form}
use Rattle.wire_names.proofs.lemmas.rr.domain.WireForm.{cut-wire}
use Rattle.tsig.proofs.keys.is_written_so.Goals as goal

pub returns-then-eq : goal.returns-then-eq
returns-then-eq c t =
    let same : c.as_wire.result.now ≡ c.as_wire-2.result.now = (bytes_eq-Decides c.as_wire.result.now c.as_wire-2.result.now).0 (sym c.eq.ensures ∙ c.if-eq.true) in
    let wires : wire_form c.args.one.now.labels ≡ wire_form c.args.other.now.labels = sym c.as_wire.ensures.labels ∙ same ∙ c.as_wire-2.ensures.labels in
    let labels : c.args.one.now.labels ≡ c.args.other.now.labels = sym (cut-wire c.args.one.now.labels) ∙ ap cut wires ∙ cut-wire c.args.other.now.labels in
    let marks : c.args.one.now.is_fqdn ≡ c.args.other.now.is_fqdn = search rules in
    λ i. record { labels = labels i; is_fqdn = marks i }
