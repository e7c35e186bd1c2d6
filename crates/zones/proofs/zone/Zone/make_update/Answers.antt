-- What an update changed is recorded, and the overview follows it.
use Rattle.std.proofs.Common.{◌≡◌, ◌∙◌, List, OnErr, ap, false, subst, sym, true}
use Rattle.std.specs.Prelude.{IsTrue}
use Rattle.hickory_base.specs.declared.requests.message_request.MessageRequest.{MessageRequest}
use Rattle.hickory_store.specs.updates.UpdatableZone.{UpdatableZone}
use Rattle.durable_updates.specs.DurableUpdates.{StaysUnwritten}
use Rattle.zone_differences.specs.declared.difference.Difference.{Difference}
use Rattle.zones.specs.KeptZones.{kept_zone}
use Rattle.zones.specs.ZoneStates.{ZoneState, zone_state}
use Rattle.zones.specs.ZoneUpdates.{IsHistory, IsMade}
use Rattle.zones.proofs.MadeUpdates.{changed_history, follows_on, is_made, not_refused, same_history, same_state, stays}
use Rattle.zones.proofs.zone.Zone.make_update.Goals as goal
use Rattle.zones.proofs.zone.Zone.make_update.Goals.{else-has_changed, then-has_changed}

pub invariant_of-self : goal.invariant_of-self
invariant_of-self g c =
    follows_on g.V.Verifier (IsTrue (kept_zone c.self.inside.kept).is_journalled × StaysUnwritten g.V.Verifier (kept_zone c.self.inside.kept).updatable (c.args.request.now, c.args.now) (kept_zone c.update-answer.new.self).takes_entries) c.args.request.now c.args.now c.update-answer.result.0 c.update-answer.result.1
    (kept_zone c.self.inside.kept).updatable (kept_zone c.update-answer.new.self).updatable c.update-answer.ensures.answers c.self.inside.overview c.self.invariant
    c.updatable-zone.result.now c.in_memory-zone.result.now c.follow.new.self (c.has_changed.ensures.0 c.if-has_changed.true) c.updatable-zone.ensures
    (c.in_memory-zone.ensures ∙ ap (λ (u : UpdatableZone g.row.V.Denot). u.zone) c.updatable.ensures) c.read_sets.ensures.zone c.read_sets.ensures.ordered c.follow.ensures

pub invariant_of-self-else-has_changed : goal.invariant_of-self-else-has_changed
invariant_of-self-else-has_changed g c =
    stays g.V.Verifier (IsTrue (kept_zone c.self.inside.kept).is_journalled × StaysUnwritten g.V.Verifier (kept_zone c.self.inside.kept).updatable (c.args.request.now, c.args.now) (kept_zone c.update-answer.new.self).takes_entries) c.args.request.now c.args.now c.update-answer.result.0 c.update-answer.result.1
    (kept_zone c.self.inside.kept).updatable (kept_zone c.update-answer.new.self).updatable c.update-answer.ensures.answers c.self.inside.overview c.self.invariant
    c.update-answer.ensures.kept
    (λ is. let e : true ≡ false = sym (c.has_changed.ensures.1 is) ∙ c.if-has_changed.false in cc)

pub returns-clause-made : goal.returns-clause-made
returns-clause-made g c =
    let answer = c.update-answer.result.0 in
    let context = c.update-answer.result.1 in
    let old = kept_zone c.self.inside.kept in
    let new = kept_zone c.update-answer.new.self in
    let IsSo = λ (from : ZoneState g.row.V.Denot) (to : ZoneState g.row.V.Denot). IsMade g.V.Verifier from (c.args.request.now, c.args.now) answer context to in
    let made = λ (after : List Difference) (recorded : IsHistory answer old.updatable.zone new.updatable.zone c.self.inside.history after).
    is_made g.V.Verifier (c.args.request.now, c.args.now) answer context old new c.self.inside.policy c.self.inside.history after c.update-answer.ensures.answers c.update-answer.ensures.others recorded in
    subst (λ (z : ZoneState g.row.V.Denot). IsSo z c.if-has_changed.self) c.self.view_is
    (elim c.if-has_changed.branch [
      | then-has_changed w ↦
          subst (IsSo (zone_state old c.self.inside.history c.self.inside.policy)) (sym w.self-is)
          (made w.follow-then-has_changed.new.self
          (changed_history g.V.Verifier c.args.request.now c.args.now context old.updatable new.updatable (IsTrue old.is_journalled × StaysUnwritten g.V.Verifier old.updatable (c.args.request.now, c.args.now) new.takes_entries) answer w.in_memory.result.now c.in_memory-zone.result.now
          c.updates-updates.result.now c.of-before.result c.self.inside.history w.follow-then-has_changed.new.self c.update-answer.ensures.answers (c.has_changed.ensures.0 w.if-has_changed.true)
          (w.in_memory.ensures ∙ ap (λ (u : UpdatableZone g.row.V.Denot). u.zone) w.updatable-zone.ensures) (c.in_memory-zone.ensures ∙ ap (λ (u : UpdatableZone g.row.V.Denot). u.zone) c.updatable.ensures)
          (c.updates-updates.ensures ∙ ap (λ (m : MessageRequest). m.authorities) c.message.ensures) c.of-before.ensures w.follow-then-has_changed.ensures))
      | else-has_changed w ↦
          subst (IsSo (zone_state old c.self.inside.history c.self.inside.policy)) (sym w.self-is)
          (made c.self.inside.history (same_history answer old.updatable.zone new.updatable.zone c.self.inside.history
          (λ is. let e : true ≡ false = sym (c.has_changed.ensures.1 is) ∙ w.if-has_changed.false in cc)))
    ])

pub returns-clause-kept : goal.returns-clause-kept
returns-clause-kept g c =
    let answer = c.update-answer.result.0 in
    let old = kept_zone c.self.inside.kept in
    let new = kept_zone c.update-answer.new.self in
    subst (λ (z : ZoneState g.row.V.Denot). OnErr answer (c.if-has_changed.self ≡ z)) c.self.view_is
    (elim c.if-has_changed.branch [
      | then-has_changed w ↦ not_refused (c.if-has_changed.self ≡ zone_state old c.self.inside.history c.self.inside.policy) answer (c.has_changed.ensures.0 w.if-has_changed.true)
      | else-has_changed w ↦
          subst (λ (z : ZoneState g.row.V.Denot). OnErr answer (z ≡ zone_state old c.self.inside.history c.self.inside.policy)) (sym w.self-is)
          (same_state answer old new c.self.inside.policy c.self.inside.history c.update-answer.ensures.others c.update-answer.ensures.kept)
    ])
