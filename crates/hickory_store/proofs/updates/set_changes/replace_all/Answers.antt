use Rattle.std.proofs.Common.{◌∙◌, ap, sym, subst}
use Rattle.std.specs.Vec.Iter.{into_iter_items}
use Rattle.hickory_store.specs.representation.SetChanges.{AllPresent, at, equals, put_all}
use Rattle.hickory_store.proofs.lemmas.updates.SetChanges.{keeps_step, present_kept, put_alike}
use Rattle.hickory_store.proofs.updates.set_changes.replace_all.Goals as goal

pub loop-put-preserved-in-Ok : goal.loop-put-preserved-in-Ok
loop-put-preserved-in-Ok c =
    let left = into_iter_items c.next.new.self in
    let m = c.loop-put.sets in
    let taken = c.in-Some.ensures.steps.0 in (
      tt,
      tt,
      λ q. put_alike left _ _ (λ x. c.in-Ok.ensures.updates.0 x) q ∙ sym (ap (λ ps. put_all ps (at m) q) taken) ∙ c.loop-put.invariant.2 q,
      present_kept left m c.insert.new.self (λ x. keeps_step (equals c.in-Some.put.key x) c.in-Some.put.set _ _ (c.in-Ok.ensures.updates.0 x))
          (subst (λ ps. AllPresent ps m) taken c.loop-put.invariant.3).1,
    )
