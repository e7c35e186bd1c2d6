-- What is done of the requests is recalled of the entries.
use Rattle.std.proofs.Common.{◌≡◌, ◌∙◌, ◌++◌, List, ℕ}
use Rattle.hickory_base.specs.zone_store.ZoneAnswers.{MemoryZone}
use Rattle.journal.specs.Read.{contents}
use Rattle.zone_differences.specs.declared.difference.Difference.{Difference}
use Rattle.durable_updates.specs.Redone.{Redone}
use Rattle.durable_updates.specs.Snapshots.{Recalls}
use Rattle.durable_updates.specs.Versions.{AreLed}
use Rattle.durable_updates.proofs.Followed.{all_led, all_recalled, both, if_ok, on_ok}
use Rattle.durable_updates.proofs.following.recall_followed.Goals as goal

pub returns-clause-recalled : goal.returns-clause-recalled
returns-clause-recalled g c =
    let requests = c.in_ok-requests.requests.now in
    let split : contents c.split_at.result.0.now ++ contents c.split_at.result.1.now ≡ contents requests =
    (λ i. contents (c.split_at.ensures.front i) ++ contents (c.split_at.ensures.back i)) ∙ both c.saturating_sub.result requests in
    on_ok (Redone (contents c.split_at.result.1.now) c.redo.new.zone.zone c.redo_followed.new.zone.zone) (Recalls (contents c.args.entries.now) c.args.zone.now.zone c.redo_followed.new.zone.zone) c.redo_followed.result
    (all_recalled (contents c.args.entries.now) (contents requests) (contents c.split_at.result.0.now) (contents c.split_at.result.1.now) c.args.zone.now.zone c.put_snapshot.new.zone.zone c.redo.new.zone.zone
    c.in_ok-requests.ensures.base split c.in_ok-redo.ensures.redone c.redo_followed.new.zone.zone)
    c.redo_followed.ensures.redone

pub returns-clause-led : goal.returns-clause-led
returns-clause-led g c =
    let requests = c.in_ok-requests.requests.now in
    let new : MemoryZone = c.redo_followed.new.zone.zone in
    let split : contents c.split_at.result.0.now ++ contents c.split_at.result.1.now ≡ contents requests =
    (λ i. contents (c.split_at.ensures.front i) ++ contents (c.split_at.ensures.back i)) ∙ both c.saturating_sub.result requests in
    if_ok (λ (history : List Difference). AreLed (λ (done : List (List ℕ)) (version : MemoryZone). Redone done c.redo.new.zone.zone version) (contents c.split_at.result.1.now) history new)
    (λ (history : List Difference). AreLed (λ (done : List (List ℕ)) (version : MemoryZone). Recalls done c.args.zone.now.zone version) (contents c.args.entries.now) history new) c.redo_followed.result
    (λ history. all_led (contents c.args.entries.now) (contents requests) (contents c.split_at.result.0.now) (contents c.split_at.result.1.now) c.args.zone.now.zone c.put_snapshot.new.zone.zone c.redo.new.zone.zone
    c.in_ok-requests.ensures.base split c.in_ok-redo.ensures.redone history new)
    c.redo_followed.ensures.led
