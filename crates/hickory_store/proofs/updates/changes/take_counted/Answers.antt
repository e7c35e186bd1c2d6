-- A turn by cases: the record comes, or does not.
use Rattle.std.proofs.Common.{◌∙◌, ap}
use Rattle.std.specs.List.{list_any}
use Rattle.hickory_store.specs.updates.Changes.{is_added, is_deleted_when, is_spared}
use Rattle.hickory_store.proofs.lemmas.updates.UpdateTurns.{turn_coming, turn_leaving, changes_coming, changes_leaving}
use Rattle.hickory_store.proofs.updates.changes.take_counted.Goals as goal

pub returns-in_ok-put_in-clause-zone : goal.returns-in_ok-put_in-clause-zone
returns-in_ok-put_in-clause-zone c =
    turn_coming c.args.by_rfc c.args.origin.now c.args.records.now.items c.args.r.now c.is_added-is_coming.result c.is_spared-is_kept.result
    (c.is_added-is_coming.ensures ∙ ap (λ z. is_added c.args.by_rfc z c.args.r.now) c.deref.ensures.value)
    (c.is_spared-is_kept.ensures ∙ ap (λ z. is_spared c.args.by_rfc c.args.origin.now z c.args.r.now) c.deref-2.ensures.value)
    _ _ c.if-is_coming.true c.take_out.ensures c.in_ok-put_in.ensures

pub returns-in_ok-put_in-clause-changed : goal.returns-in_ok-put_in-clause-changed
returns-in_ok-put_in-clause-changed c =
    changes_coming c.args.by_rfc c.args.origin.now c.args.records.now.items c.args.r.now c.is_added-is_coming.result c.is_spared-is_kept.result
    (c.is_added-is_coming.ensures ∙ ap (λ z. is_added c.args.by_rfc z c.args.r.now) c.deref.ensures.value)
    (c.is_spared-is_kept.ensures ∙ ap (λ z. is_spared c.args.by_rfc c.args.origin.now z c.args.r.now) c.deref-2.ensures.value)
    c.if-is_coming.true

pub returns-else-is_coming-clause-zone : goal.returns-else-is_coming-clause-zone
returns-else-is_coming-clause-zone c =
    turn_leaving c.args.by_rfc c.args.origin.now c.args.records.now.items c.args.r.now c.is_added-is_coming.result c.is_spared-is_kept.result
    (c.is_added-is_coming.ensures ∙ ap (λ z. is_added c.args.by_rfc z c.args.r.now) c.deref.ensures.value)
    (c.is_spared-is_kept.ensures ∙ ap (λ z. is_spared c.args.by_rfc c.args.origin.now z c.args.r.now) c.deref-2.ensures.value)
    _ c.if-is_coming.false c.take_out.ensures

pub returns-else-is_coming-clause-changed : goal.returns-else-is_coming-clause-changed
returns-else-is_coming-clause-changed c =
    changes_leaving c.args.by_rfc c.args.origin.now c.args.records.now.items c.args.r.now c.is_added-is_coming.result c.is_spared-is_kept.result
    (c.is_added-is_coming.ensures ∙ ap (λ z. is_added c.args.by_rfc z c.args.r.now) c.deref.ensures.value)
    (c.is_spared-is_kept.ensures ∙ ap (λ z. is_spared c.args.by_rfc c.args.origin.now z c.args.r.now) c.deref-2.ensures.value)
    _ c.if-is_coming.false
    (c.has_going-is_going.ensures ∙ ap (list_any (is_deleted_when c.args.origin.now c.args.r.now c.is_added-is_coming.result c.is_spared-is_kept.result)) c.deref-3.ensures.value)
