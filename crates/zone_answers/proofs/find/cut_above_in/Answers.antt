use Rattle.std.proofs.Common.{◌≡◌, ◌≤◌, drop, length, ap, ◌∙◌, arith}
use Rattle.hickory_base.specs.zone_store.ZoneSets.{shared_sets}
use Rattle.wire_names.specs.rr.domain.DomainName.{wire_form}
use Rattle.zone_answers.proofs.lemmas.zones.CutsAbove.{none_from}
use Rattle.zone_answers.specs.Zones.{Zone}
use Rattle.zone_answers.proofs.find.cut_above_in.Goals as goal

pub returns-then-parent_len-as_wire-clause-cut : goal.returns-then-parent_len-as_wire-clause-cut
returns-then-parent_len-as_wire-clause-cut c =
    let zone : Zone = record { origin = c.args.origin.now; sets = shared_sets c.args.index.now.entries } in
    let apex : c.as_wire.result.now ≡ wire_form zone.origin.labels = c.as_wire.ensures.labels ∙ ap (λ d. wire_form d.labels) c.as_name.ensures.name in
    let short : length (wire_form (drop 1 c.args.first.now.name.labels)) ≤ length (wire_form zone.origin.labels) = omega (arith, c.parent_len.ensures.len, ap length apex, c.if-parent_len-as_wire.true) in
    λ k some cut. none_from zone c.args.first.now.name 1 k short (omega arith) cut
