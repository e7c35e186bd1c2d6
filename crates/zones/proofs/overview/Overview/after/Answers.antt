-- By the records of the update, or by the zone that it left.
use Rattle.std.proofs.Common.{◌≡◌, List, subst, sym, ap, ◌∙◌}
use Rattle.std.specs.Prelude.{IfSome}
use Rattle.wire_messages.specs.declared.rr.rdata.RData.{RData}
use Rattle.wire_messages.specs.declared.rr.record.Record.{Record}
use Rattle.hickory_base.specs.requests.Updates.{update_of}
use Rattle.hickory_base.specs.declared.requests.message_request.MessageRequest.{MessageRequest}
use Rattle.hickory_base.specs.zone_store.ZoneAnswers.{MemoryZone}
use Rattle.zone_answers.specs.representation.Indexes.{KeepsOthers}
use Rattle.zone_replies.specs.representation.PreparedZones.{IsPrepared}
use Rattle.zones.specs.Overviews.{IsOverview}
use Rattle.zones.proofs.Followed.{followed, sets_are}
use Rattle.zones.proofs.KeptOverviews.{unprepared}
use Rattle.zones.proofs.NamesStay.{origin_stays}
use Rattle.zones.proofs.RrsetsStay.{rrsets_stay}
use Rattle.zones.proofs.overview.Overview.after.Goals as goal

pub returns-then-are_named : goal.returns-then-are_named
returns-then-are_named g c = λ old now answer context zone ordered gives seen.
    let updates = c.updates-updates.result.now in
    let spoken : updates ≡ (update_of c.args.request.now.message).updates = c.updates-updates.ensures ∙ ap (λ (m : MessageRequest). m.authorities) c.message.ensures in
    let left = sets_are c.args.zone.now c.in_memory.result.now c.in_memory.ensures c.read_sets.ensures.zone c.read_sets.ensures.ordered in
    let known =
    followed c.identities.ensures.zones c.identities.ensures.records g.V.Verifier c.args.request.now now answer context old c.args.zone.now gives (record { zone = zone; ordered = ordered })
    left c.args.self.now.has c.with_records.result c.args.self.now.is_owned updates spoken
    (record { named = c.are_named.ensures.0 c.if-are_named.true; includes = c.with_records.ensures.includes; covers = c.with_records.ensures.covers })
    (seen.has, seen.owned) c.if-self.true in
    let kept = rrsets_stay g.V.Verifier c.args.request.now now answer context old c.args.zone.now gives zone ordered left.zone left.ordered in
    let same = c.in_memory-then-are_named.ensures in
    let left_so = subst (λ (z : MemoryZone). KeepsOthers updates old.zone.origin old.zone.sets z.sets) (sym same)
    (subst (λ (rs : List (Record RData)). KeepsOthers rs old.zone.origin old.zone.sets c.args.zone.now.zone.sets) (sym spoken) kept) in
    let origin = ap (λ (z : MemoryZone). z.origin) same ∙ origin_stays g.V.Verifier c.args.request.now now answer context old c.args.zone.now gives in
    record {
      has = known.0;
      owned = known.1;
      prepared = subst (λ (z : MemoryZone). IfSome c.prepared_after.result (IsPrepared z)) same (c.prepared_after.ensures old.zone origin seen.prepared left_so);
    }

pub returns-else-self : goal.returns-else-self
returns-else-self g c = λ old now answer context zone ordered gives seen.
    subst (λ z. IsOverview z c.seen.result) c.in_memory-else-self.ensures (record { has = c.seen.ensures.has; owned = c.seen.ensures.owned; prepared = unprepared c.seen.result.prepared c.in_memory-else-self.result.now c.seen.ensures.prepared })
