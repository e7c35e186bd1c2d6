-- An update by cases: nothing changed, the serial is incremented, or it is left.
use Rattle.std.proofs.Common.{◌≡◌, ◌∙◌, ap, sym, subst, map, Bool, Result, Ok, Err, IsErr, IsErrAnd, MatchResult}
use Rattle.hickory_base.specs.zone_store.ZoneSets.{zone_records}
use Rattle.hickory_store.specs.updates.Changes.{after_updates}
use Rattle.hickory_store.specs.updates.NameUpdates.{AreNow, ByName}
use Rattle.hickory_store.specs.updates.UpdateAnswers.{IsRefused, Outcome, incremented}
use Rattle.hickory_store.proofs.lemmas.updates.ApexNs.{Records}
use Rattle.hickory_store.proofs.lemmas.updates.TouchedNames.{none_touched, serial_given, with_change, without_serial}
use Rattle.hickory_store.proofs.updates.updating.updated.Goals as goal
use Rattle.hickory_store.proofs.updates.updating.updated.Goals.{then-increments+else-not-is_changed+in_ok-increment_apex, else-increments}

from_err : {X E : Type 0} (r : Result X E) (e : E) (P : X → Type 0) (Q : E → Type 0) → IsErr r → IsErrAnd r (λ y. y ≡ e) → Q e → MatchResult r P Q
from_err (Ok x) e P Q h k q = absurd (cc)
from_err (Err y) e P Q h k q = subst Q (sym k) q

pub returns-in_err-increment_apex : goal.returns-in_err-increment_apex
returns-in_err-increment_apex c =
    let zone = zone_records c.args.zone.now.sets in
    let origin = c.args.zone.now.origin in
    let updates = c.args.updates.now in
    let start = none_touched zone c.new-touched.result c.new-touched.ensures.empty in
    let left = c.in_ok-is_changed.ensures.zone zone start in
    let told = c.in_ok-is_changed.ensures.changed zone start in
    let fault = c.in_err-increment_apex.field-0.0 in
    let refused = subst (λ (outcome : Outcome). IsRefused outcome fault)
    (sym (with_change c.args.by_rfc origin zone updates c.args.increments c.if-increments.true (sym told ∙ c.if-not-is_changed.false)))
    (c.in_err-increment_apex.ensures.refused (after_updates c.args.by_rfc origin zone updates) left) in
    let h = c.from_residual-in_err-increment_apex.ensures in
    from_err c.from_residual-in_err-increment_apex.result fault _ _ h.0 h.1 refused

pub returns : goal.returns
returns c =
    let zone = zone_records c.args.zone.now.sets in
    let origin = c.args.zone.now.origin in
    let updates = c.args.updates.now in
    let increments = c.args.increments in
    let start = none_touched zone c.new-touched.result c.new-touched.ensures.empty in
    let left = c.in_ok-is_changed.ensures.zone zone start in
    let told = c.in_ok-is_changed.ensures.changed zone start in
    let after : Records = after_updates c.args.by_rfc origin zone updates in
    elim c.if-increments.branch [
      | then-increments+else-not-is_changed+in_ok-increment_apex w ↦ (
        map (incremented origin) after,
        subst (λ (t : ByName). AreNow zone t (map (incremented origin) after)) (sym w.touched-is) (w.in_ok-increment_apex.ensures.zone after left),
        with_change c.args.by_rfc origin zone updates increments w.if-increments.true (sym told ∙ w.if-not-is_changed.false)
            ∙ serial_given origin after (w.in_ok-increment_apex.ensures.found after left)
            ∙ ap (λ (b : Bool). let o : Outcome = Ok (map (incremented origin) after, b) in o) (sym w.if-increments.true),
      )
      | else-increments w ↦ (after, subst (λ (t : ByName). AreNow zone t after) (sym w.touched-is) left, without_serial c.args.by_rfc origin zone updates increments w.if-increments.false)
    ]
