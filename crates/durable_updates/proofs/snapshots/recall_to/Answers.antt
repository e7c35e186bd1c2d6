-- What is done of the requests is recalled of the entries.
use Rattle.journal.specs.Read.{contents}
use Rattle.durable_updates.proofs.Recalled.{of_found, recalls_front}
use Rattle.durable_updates.proofs.snapshots.recall_to.Goals as goal

pub returns-clause-recalled : goal.returns-clause-recalled
returns-clause-recalled g c =
    of_found _ _ c.redo_to.result
    (λ rest h.
    let front = recalls_front (contents c.args.entries.now) (contents c.in_ok-requests.requests.now) h.0 (contents rest.now) c.args.zone.now.zone c.put_snapshot.new.zone.zone c.redo_to.new.zone.zone c.in_ok-requests.ensures.base h.1 h.2 in
    (front.0, front.1, front.2, h.3))
    c.redo_to.ensures.redone
