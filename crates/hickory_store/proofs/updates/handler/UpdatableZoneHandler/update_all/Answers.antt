-- One request more was answered.
use Rattle.std.proofs.Common.{◌∙◌, ap, arith, ◌∷◌, [], ◌++◌, false, subst, sym, take}
use Rattle.std.proofs.lemmas.List.{take_more}
use Rattle.hickory_store.specs.updates.UpdateAnswers.{UpdatesAll}
use Rattle.hickory_store.proofs.lemmas.updates.UpdateRuns.{updates_more}
use Rattle.hickory_store.proofs.updates.handler.UpdatableZoneHandler.update_all.Goals as goal

pub loop-n-preserved : goal.loop-n-preserved
loop-n-preserved g c =
    let requests = c.args.requests.now in
    let n = c.loop-n.n in
    let item = c.index-requests-n.result in
    subst (λ front. UpdatesAll false g.V.Verifier front c.args.self.now c.update_one.new.self)
    (ap (λ r. take n requests ++ r ∷ []) c.index-requests-n.is ∙ sym (take_more requests n item (omega arith)))
    (updates_more false g.V.Verifier (take n requests) item c.args.self.now c.loop-n.self c.update_one.new.self c.loop-n.invariant c.in-Ok.ensures)
