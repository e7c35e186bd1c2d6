-- One record more of the update section.
use Rattle.std.proofs.Common.{◌≡◌, ◌∙◌, ◌∷◌, ◌||◌, Bool, true, false, List, ◌+◌, arith, ap, sym, subst, drop, refl}
use Rattle.std.proofs.lemmas.List.{drop_all, drop_more}
use Rattle.wire_messages.specs.declared.rr.rdata.RData.{RData}
use Rattle.wire_messages.specs.declared.rr.record.Record.{Record}
use Rattle.hickory_base.specs.zone_store.ZoneSets.{zone_records}
use Rattle.hickory_store.specs.updates.Changes.{any_change, after_updates, after_record}
use Rattle.hickory_store.specs.updates.NameUpdates.{AreNow}
use Rattle.hickory_store.proofs.updates.touched.touch_all.Goals as goal

or_left : (a b c d : Bool) → b ≡ c → ((a || b) || d) ≡ (a || (c || d))
or_left true b c d e = refl
or_left false b c d e = ap (λ x. x || d) e

pub loop-r-preserved : goal.loop-r-preserved
loop-r-preserved c records now =
    let origin = c.args.zone.now.origin in
    let updates = c.args.updates.now in
    let i = c.loop-r.r-index in
    let r = c.r-item.result in
    let held = c.loop-r.invariant records now in
    let left : drop i updates ≡ r ∷ drop (i + 1) updates = drop_more updates i r (omega arith) ∙ ap (λ (x : Record RData). x ∷ drop (i + 1) updates) (sym c.r-item.is) in (
      after_record c.args.by_rfc origin held.0 r,
      c.in_ok-is_changed.ensures.zone held.0 held.1,
      sym (ap (λ (us : List (Record RData)). after_updates c.args.by_rfc origin held.0 us) left) ∙ held.2,
      or_left c.loop-r.changed c.in_ok-is_changed.is_changed _ _ (c.in_ok-is_changed.ensures.changed held.0 held.1)
          ∙ sym (ap (λ (us : List (Record RData)). c.loop-r.changed || any_change c.args.by_rfc origin held.0 us) left) ∙ held.3,
    )

pub returns-clause-zone : goal.returns-clause-zone
returns-clause-zone c records now =
    let origin = c.args.zone.now.origin in
    let updates = c.args.updates.now in
    let held = c.loop-r.invariant records now in
    subst (λ (zs : List (Record RData)). AreNow (zone_records c.args.zone.now.sets) c.loop-r.touched zs)
    (sym (ap (λ (us : List (Record RData)). after_updates c.args.by_rfc origin held.0 us) (drop_all c.loop-r.r-index updates (omega arith))) ∙ held.2) held.1
