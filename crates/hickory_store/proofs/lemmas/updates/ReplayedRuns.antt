-- A journal, done to the zone that was there before, gives the zone that the requests left.
use Rattle.std.proofs.Common.{◌≡◌, ◌∙◌, ap, sym, refl, ℕ, Bool, true, false, cond, List, [], ◌∷◌, map, Option, Some, None, Ok, Err}
use Rattle.std.specs.List.{list_any}
use Rattle.wire_names.specs.rr.domain.DomainName.{DomainName}
use Rattle.hickory_base.specs.requests.Updates.{UpdateMessage, update_of}
use Rattle.hickory_base.specs.zone_store.ZoneAnswers.{MemoryZone}
use Rattle.hickory_base.specs.zone_store.ZoneSets.{zone_records}
use Rattle.hickory_base.specs.requests.Requests.{TimedRequest}
use Rattle.hickory_base.specs.zone_store.Lookups.{UpdateResult}
use Rattle.hickory_store.specs.updates.Changes.{any_change, after_updates, after_record}
use Rattle.hickory_store.specs.updates.Identity.{SameZone, ttl_at}
use Rattle.hickory_store.specs.updates.Permission.{update_permission}
use Rattle.hickory_store.specs.updates.Prerequisites.{prerequisite_section_refusal}
use Rattle.hickory_store.specs.updates.Prescan.{prescan_refusal}
use Rattle.hickory_store.specs.updates.Replays.{IsEntry, Journalled, Replays}
use Rattle.hickory_store.specs.updates.UpdatableZone.{UpdatableZone}
use Rattle.hickory_store.specs.updates.UpdateAnswers.{IsOutcome, Outcome, Updates, applied, incremented, is_apex_soa, message_outcome, unless_refused, with_next_serial}
use Rattle.hickory_store.specs.updates.UpdateLaws.{HoldsIn}
use Rattle.hickory_store.specs.declared.updates.verifier.Verifier.{Ghosts}
use Rattle.hickory_store.proofs.lemmas.updates.ApexNs.{OfOneType, Records}
use Rattle.hickory_store.proofs.lemmas.updates.Replays.{Ready, fold_both, ready_fold, ready_next, ready_same, soa_comes, soa_data}
use Rattle.hickory_store.proofs.lemmas.updates.SameZones.{Identity, fold_same}
use Rattle.hickory_store.proofs.lemmas.updates.SerialSteps.{fold_stays}
use Rattle.hickory_store.proofs.lemmas.updates.UpdatesKeep.{keeps_one}

unless_ok : (code : Option ℕ) (outcome : Outcome) (records : Records) (changed : Bool) → IsOutcome (unless_refused code outcome) records changed → IsOutcome outcome records changed
unless_ok None outcome records changed h = h
unless_ok (Some code) outcome records changed h = absurd h

-- the zone of a message that was not refused is that of its updates
message_ok : (refusal : Option ℕ) (zone : MemoryZone) (message : UpdateMessage) (records : Records) (changed : Bool) → IsOutcome (message_outcome false refusal zone message) records changed
    → IsOutcome (applied false zone.origin (zone_records zone.sets) message.updates true) records changed
message_ok refusal zone message records changed h =
    let old = zone_records zone.sets in
    let last : Outcome = applied false zone.origin old message.updates true in
    let scan = prescan_refusal zone.origin message.updates in
    let required = prerequisite_section_refusal zone.origin old message.prerequisites in
    unless_ok scan last records changed (unless_ok required (unless_refused scan last) records changed (unless_ok refusal (unless_refused required (unless_refused scan last)) records changed h))

module _ (identity : Identity) (same_type : OfOneType) where
  -- what is done again of one list of updates
  found_done : (o : DomainName) (z : Records) (rs : Records) (new : MemoryZone) (entry : Records) (changed b : Bool) → Ready identity same_type o z → new.origin ≡ o
      → IsOutcome (cond b (Ok (map (incremented o) (after_updates false o z rs), true)) (Err 2)) (zone_records new.sets) changed → IsEntry rs (Ok changed) new entry → SameZone (zone_records new.sets) (after_updates false o z entry)
  found_done o z rs new entry true true h e k j q =
      let after : Records = map (incremented o) (after_updates false o z rs) in
      let left : SameZone after (after_record false o (after_updates false o z rs) j.0) =
      soa_comes identity same_type o (after_updates false o z rs) (ready_fold identity same_type o rs z h) j.0 (ap (λ o. is_apex_soa o j.0) (sym e) ∙ j.1.0) (sym (k.0 j.0) ∙ j.1.1) in
      k.0 q ∙ left q ∙ ap (λ w. ttl_at w q) (sym (fold_both o rs (j.0 ∷ []) z) ∙ ap (after_updates false o z) (sym j.2))
  found_done o z rs new entry false true h e k j q = absurd (let f : false ≡ true = k.1 in cc)
  found_done o z rs new entry changed false h e k j q = absurd k

  same_done : (o : DomainName) (z rs : Records) (new : MemoryZone) (entry : Records) (changed : Bool) → after_updates false o z rs ≡ z → SameZone (zone_records new.sets) z → changed ≡ false
      → IsEntry rs (Ok changed) new entry → SameZone (zone_records new.sets) (after_updates false o z entry)
  same_done o z rs new entry true e k c j q = absurd (cc)
  same_done o z rs new entry false e k c j q = k q ∙ ap (λ w. ttl_at w q) (sym e ∙ ap (after_updates false o z) (sym j))

  changed_done : (o : DomainName) (z rs : Records) (new : MemoryZone) (entry : Records) (changed b : Bool) → any_change false o z rs ≡ b → Ready identity same_type o z → new.origin ≡ o
      → IsOutcome (cond b (with_next_serial o (after_updates false o z rs)) (Ok (z, false))) (zone_records new.sets) changed → IsEntry rs (Ok changed) new entry → SameZone (zone_records new.sets) (after_updates false o z entry)
  changed_done o z rs new entry changed true c h e k j = found_done o z rs new entry changed (list_any (is_apex_soa o) (after_updates false o z rs)) h e k j
  changed_done o z rs new entry changed false c h e k j = same_done o z rs new entry changed (fold_stays false o rs z c) k.0 k.1 j

  updates_done : (refusal : Option ℕ) (old new : MemoryZone) (message : UpdateMessage) (answer : UpdateResult) (entry : Records) → HoldsIn (Ready identity same_type) old
      → Updates (message_outcome false refusal old message) answer old new → IsEntry message.updates answer new entry
      → SameZone (zone_records new.sets) (after_updates false old.origin (zone_records old.sets) entry)
  updates_done refusal old new message (Ok changed) entry h u j =
      changed_done old.origin (zone_records old.sets) message.updates new entry changed (any_change false old.origin (zone_records old.sets) message.updates) refl h (ap (λ (z : MemoryZone). z.origin) u.1)
      (message_ok refusal old message (zone_records new.sets) changed u.0) j
  updates_done refusal old new message (Err fault) entry h u j =
      λ q. ap (λ (z : MemoryZone). ttl_at (zone_records z.sets) q) u.1 ∙ ap (λ w. ttl_at (after_updates false old.origin (zone_records old.sets) w) q) (sym j)

  module _ {V : Type 0} (by : Ghosts V) where
    -- the handler's origin stays
    same_origin : (outcome : Outcome) (answer : UpdateResult) (old new : MemoryZone) → Updates outcome answer old new → new.origin ≡ old.origin
    same_origin outcome (Ok changed) old new u = ap (λ (z : MemoryZone). z.origin) u.1
    same_origin outcome (Err fault) old new u = ap (λ (z : MemoryZone). z.origin) u.1

    all_done : (requests : List TimedRequest) (old new : UpdatableZone V) (journal : Records) → Journalled by requests old new journal → HoldsIn (Ready identity same_type) old.zone
        → SameZone (zone_records new.zone.sets) (after_updates false old.zone.origin (zone_records old.zone.sets) journal)
    all_done [] old new journal a h q =
        ap (λ (z : UpdatableZone V). ttl_at (zone_records z.zone.sets) q) a.0 ∙ ap (λ w. ttl_at (after_updates false old.zone.origin (zone_records old.zone.sets) w) q) (sym a.1)
    all_done (request ∷ requests) old new journal a h q =
        let o = old.zone.origin in
        let z = zone_records old.zone.sets in
        let between : UpdatableZone V = a.2 in
        let entry : Records = a.3 in
        let rest : Records = a.4 in
        let refusal : Option ℕ = (update_permission by old.verifier old.allow_update request.0 request.1).refusal in
        let one : SameZone (zone_records between.zone.sets) (after_updates false o z entry) = updates_done refusal old.zone between.zone (update_of request.0.message) a.0 entry h a.5.0 a.6 in
        let ready : HoldsIn (Ready identity same_type) between.zone =
        keeps_one false (Ready identity same_type) (ready_fold identity same_type) (ready_next identity same_type) (ready_same identity same_type) by request a.0 a.1 old between a.5 h in
        let others : SameZone (zone_records new.zone.sets) (after_updates false between.zone.origin (zone_records between.zone.sets) rest) = all_done requests between new rest a.7 ready in
        let origin : between.zone.origin ≡ o = same_origin (message_outcome false refusal old.zone (update_of request.0.message)) a.0 old.zone between.zone a.5.0 in
        others q ∙ ap (λ n. ttl_at (after_updates false n (zone_records between.zone.sets) rest) q) origin
        ∙ fold_same identity false o rest (zone_records between.zone.sets) (after_updates false o z entry) one q
        ∙ ap (λ w. ttl_at w q) (sym (fold_both o entry rest z) ∙ ap (after_updates false o z) (sym a.8))

    pub replays : Replays by
    replays requests old new journal a h = all_done requests old new journal a (h.0, h.1, h.2, soa_data h.0.rdata h.3, h.4)
