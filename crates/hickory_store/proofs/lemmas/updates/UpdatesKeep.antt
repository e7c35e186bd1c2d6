-- What the records of an update, the increment and sameness keep, requests keep.
use Rattle.std.proofs.Common.{ap, sym, subst, ℕ, Bool, true, false, cond, List, [], ◌∷◌, map, Option, Some, None, Ok, Err}
use Rattle.std.specs.List.{list_any}
use Rattle.wire_names.specs.rr.domain.DomainName.{DomainName}
use Rattle.hickory_base.specs.requests.Updates.{UpdateMessage, update_of}
use Rattle.hickory_base.specs.zone_store.ZoneAnswers.{MemoryZone}
use Rattle.hickory_base.specs.zone_store.ZoneSets.{zone_records}
use Rattle.hickory_base.specs.requests.Requests.{TimedRequest}
use Rattle.hickory_base.specs.zone_store.Lookups.{SignerContext, UpdateResult}
use Rattle.hickory_store.specs.updates.Changes.{any_change, after_updates}
use Rattle.hickory_store.specs.updates.Identity.{SameZone}
use Rattle.hickory_store.specs.updates.Permission.{update_permission}
use Rattle.hickory_store.specs.updates.Prerequisites.{prerequisite_section_refusal}
use Rattle.hickory_store.specs.updates.Prescan.{prescan_refusal}
use Rattle.hickory_store.specs.updates.UpdatableZone.{UpdatableZone}
use Rattle.hickory_store.specs.updates.UpdateAnswers.{AnswersUpdate, IsOutcome, Outcome, Updates, UpdatesAll, applied, incremented, is_apex_soa, message_outcome, unless_refused, with_next_serial}
use Rattle.hickory_store.specs.updates.UpdateLaws.{HoldsIn, Keeps}
use Rattle.hickory_store.specs.declared.updates.verifier.Verifier.{Ghosts}
use Rattle.hickory_store.proofs.lemmas.updates.ApexNs.{Records}

module _ (f : Bool) (Holds : DomainName → Records → Type 0) (folds : (o : DomainName) (rs z : Records) → Holds o z → Holds o (after_updates f o z rs))
    (nexts : (o : DomainName) (z : Records) → Holds o z → Holds o (map (incremented o) z)) (sames : (o : DomainName) (z w : Records) → SameZone z w → Holds o z → Holds o w) where
  abbrev Left : DomainName → Outcome → Type 0
  Left o (Ok p) = Holds o p.0
  Left o (Err code) = Unit {0}

  found_left : (o : DomainName) (z : Records) (b : Bool) → Holds o z → Left o (cond b (Ok (map (incremented o) z, true)) (Err 2))
  found_left o z true h = nexts o z h
  found_left o z false h = tt

  changed_left : (o : DomainName) (rs z : Records) (b : Bool) → Holds o z → Left o (cond b (with_next_serial o (after_updates f o z rs)) (Ok (z, false)))
  changed_left o rs z true h = found_left o (after_updates f o z rs) (list_any (is_apex_soa o) (after_updates f o z rs)) (folds o rs z h)
  changed_left o rs z false h = h

  unless_left : (o : DomainName) (code : Option ℕ) (outcome : Outcome) → Left o outcome → Left o (unless_refused code outcome)
  unless_left o None outcome h = h
  unless_left o (Some code) outcome h = tt

  message_left : (refusal : Option ℕ) (zone : MemoryZone) (message : UpdateMessage) → HoldsIn Holds zone → Left zone.origin (message_outcome f refusal zone message)
  message_left refusal zone message h =
      let records = zone_records zone.sets in
      let last : Outcome = applied f zone.origin records message.updates true in
      let scan = prescan_refusal zone.origin message.updates in
      unless_left zone.origin refusal (unless_refused (prerequisite_section_refusal zone.origin records message.prerequisites) (unless_refused scan last))
      (unless_left zone.origin (prerequisite_section_refusal zone.origin records message.prerequisites) (unless_refused scan last)
      (unless_left zone.origin scan last (changed_left zone.origin message.updates records (any_change f zone.origin records message.updates) h)))

  outcome_left : (o : DomainName) (outcome : Outcome) (records : Records) (changed : Bool) → Left o outcome → IsOutcome outcome records changed → Holds o records
  outcome_left o (Ok p) records changed h e = sames o p.0 records (λ q. sym (e.0 q)) h
  outcome_left o (Err code) records changed h e = absurd e

  updates_left : (outcome : Outcome) (answer : UpdateResult) (old new : MemoryZone) → Left old.origin outcome → HoldsIn Holds old → Updates outcome answer old new → HoldsIn Holds new
  updates_left outcome (Ok changed) old new h k u =
      subst (λ o. Holds o (zone_records new.sets)) (sym (ap (λ (z : MemoryZone). z.origin) u.1)) (outcome_left old.origin outcome (zone_records new.sets) changed h u.0)
  updates_left outcome (Err fault) old new h k u = subst (HoldsIn Holds) (sym u.1) k

  module _ {V : Type 0} (by : Ghosts V) where
    pub keeps_one : (request : TimedRequest) (answer : UpdateResult) (context : SignerContext) (old new : UpdatableZone V)
        → AnswersUpdate f by old request answer context new → HoldsIn Holds old.zone → HoldsIn Holds new.zone
    keeps_one request answer context old new a h =
        let refusal = (update_permission by old.verifier old.allow_update request.0 request.1).refusal in
        let message = update_of request.0.message in
        updates_left (message_outcome f refusal old.zone message) answer old.zone new.zone (message_left refusal old.zone message h) h a.0

    pub keeps_all : (requests : List TimedRequest) (old new : UpdatableZone V) → UpdatesAll f by requests old new → HoldsIn Holds old.zone → HoldsIn Holds new.zone
    keeps_all [] old new a h = subst (λ (u : UpdatableZone V). HoldsIn Holds u.zone) (sym a) h
    keeps_all (request ∷ requests) old new a h =
        keeps_all requests a.0 new a.2 (keeps_one request a.1.0 a.1.1 old a.0 a.1.3 h)

pub keeps : (Holds : DomainName → Records → Type 0) → ((f : Bool) (o : DomainName) (rs z : Records) → Holds o z → Holds o (after_updates f o z rs))
    → ((o : DomainName) (z : Records) → Holds o z → Holds o (map (incremented o) z)) → ((o : DomainName) (z w : Records) → SameZone z w → Holds o z → Holds o w)
    → {V : Type 0} (by : Ghosts V) → Keeps by Holds
keeps Holds folds nexts sames by = (λ f. keeps_one f Holds (folds f) nexts sames by, λ f. keeps_all f Holds (folds f) nexts sames by)
