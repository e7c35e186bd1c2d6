use Rattle.std.proofs.Common.{refl, sym, ap, ◌∙◌}
use Rattle.std.specs.List.{list_any}
use Rattle.hickory_base.specs.zone_store.ZoneRecords.{is_of}
use Rattle.hickory_base.specs.zone_store.ZoneSets.{sets_of}
use Rattle.zone_answers.specs.Zones.{Zone}
use Rattle.zone_answers.proofs.lemmas.replies.Hosts.{nothing_more_put, nothing_put, on_ok, put_once}
use Rattle.zone_answers.proofs.additionals.append_once.Goals as goal
use Rattle.zone_answers.proofs.additionals.append_once.Goals.{then-has_of-via-then-has_of, then-has_of-via-else-has_of+then-has_of-2}

pub returns-then-has_of : goal.returns-then-has_of
returns-then-has_of c =
    let zone : Zone = record { origin = c.args.zone.origin.now; sets = sets_of c.args.zone.sets.now } in
    let name = c.args.host.now.name in
    let t = c.args.record_type in
    elim c.then-has_of.branch [
      | then-has_of-via-then-has_of w ↦ nothing_put c.args.source zone c.args.answers.now c.args.all.now.items name t c.args.all.now.items refl (sym c.has_of.ensures ∙ w.if-has_of.true)
      | then-has_of-via-else-has_of+then-has_of-2 w ↦ nothing_more_put c.args.source zone c.args.answers.now c.args.all.now.items name t c.args.all.now.items refl (sym c.has_of.ensures ∙ w.if-has_of.false)
          (sym (w.has_of-else-has_of.ensures ∙ ap (list_any (is_of name t)) w.as_slice.ensures.value) ∙ w.if-has_of-2.true)
    ]

pub returns : goal.returns
returns c =
    let zone : Zone = record { origin = c.args.zone.origin.now; sets = sets_of c.args.zone.sets.now } in
    let name = c.args.host.now.name in
    let t = c.args.record_type in
    on_ok c.append_from.result _ _ c.append_from.ensures
    (λ g. put_once c.args.source zone c.args.answers.now c.args.all.now.items name t c.append_from.new.all.items (sym c.has_of.ensures ∙ c.if-has_of.false)
    (sym (c.has_of-else-has_of.ensures ∙ ap (list_any (is_of name t)) c.as_slice.ensures.value) ∙ c.if-has_of-2.false) g)
