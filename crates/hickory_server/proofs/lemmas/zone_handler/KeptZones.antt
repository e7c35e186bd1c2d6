-- What the records of an update keep, the zones of a server keep.
use Rattle.std.proofs.Common.{◌≡◌, ◌∙◌, ◌++◌, ap, sym, subst, ℕ, Bool, true, false, cond, not, ◌&&◌, List, [], ◌∷◌, map, Option, Result, Ok, Err}
use Rattle.std.proofs.lemmas.List.Elements.{All-append, All-cons, All-head, All-nil, All-tail}
use Rattle.std.specs.Prelude.{◌==◌}
use Rattle.std.specs.List.{All, list_any}
use Rattle.wire_names.specs.rr.domain.DomainName.{DomainName}
use Rattle.wire_messages.specs.op.EdnsFields.{EdnsFields}
use Rattle.wire_messages.specs.serialize.writing.Reply.{Reply}
use Rattle.wire_messages.specs.declared.rr.tsig.TSigResponseContext.{TSigResponseContext}
use Rattle.server_limits.specs.Access.{AccessSets}
use Rattle.hickory_base.specs.requests.Requests.{ReceivedRequest, TimedRequest}
use Rattle.hickory_base.specs.zone_store.ZoneAnswers.{MemoryZone}
use Rattle.hickory_base.specs.zone_store.ZoneRecords.{is_at}
use Rattle.hickory_base.specs.zone_store.ZoneSets.{zone_records}
use Rattle.hickory_base.specs.declared.errors.CatalogError.TheVariants as catalog_error
use Rattle.hickory_base.specs.declared.errors.UpdateFault.{UpdateFault}
use Rattle.hickory_base.specs.declared.zone_store.handler.ZoneHandler as handler_trait
use Rattle.hickory_base.specs.declared.zone_store.handler.ZoneType.{ZoneType}
use Rattle.hickory_base.specs.declared.zone_store.handler.ZoneType.TheVariants.{Primary, Secondary, External}
use Rattle.hickory_catalog.specs.requests.Requests.{RequestAnswered, asks, refused, updates}
use Rattle.hickory_catalog.specs.requests.Server.{server_of}
use Rattle.hickory_catalog.specs.replies.Signing.{Signer}
use Rattle.hickory_catalog.specs.updates.Updates.{ApexUpdated, FirstUpdated, HandlerUpdated, UpdateGiven, UpdateReply, answered, no_apex, no_handler, unnamed}
use Rattle.hickory_catalog.specs.zones.Zones.{ZoneChains}
use Rattle.hickory_catalog.specs.declared.catalog.Catalog.{Catalog}
use Rattle.hickory_store.specs.updates.Changes.{any_change, after_updates, is_type}
use Rattle.hickory_store.specs.updates.Identity.{SameZone}
use Rattle.hickory_store.specs.updates.UpdatableZone.{UpdatableZone}
use Rattle.hickory_store.specs.updates.UpdateAnswers.{AnswersUpdate, IsOutcome, Outcome, applied, incremented, is_apex_soa, with_next_serial}
use Rattle.hickory_store.specs.updates.UpdateLaws.{CnamesAlone, HasNs, HasOneSoa, HoldsIn, Keeps, is_apex_ns}
use Rattle.hickory_store.specs.declared.updates.verifier.Verifier as verifier
use Rattle.hickory_store.proofs.lemmas.updates.ApexNs.{OfOneType, Records, ns_stays}
use Rattle.hickory_store.proofs.lemmas.updates.CnameAlone.{cname_stays}
use Rattle.hickory_store.proofs.lemmas.updates.KeptAtApex.{any_next, cname_next, cname_respects, other_respects}
use Rattle.hickory_store.proofs.lemmas.updates.OneSoa.{next_soa, one_fold, one_next, one_soa_same}
use Rattle.hickory_store.proofs.lemmas.updates.SameZones.{Identity, any_same, both_respect, name_respects, type_respects}
use Rattle.hickory_store.proofs.lemmas.updates.UpdatedZones.{next_type}
use Rattle.hickory_server.specs.zone_handler.KeptZones.{AreKept, HoldsInAll, OfZone, RecordsKeep, UnansweredUpdatesKeep, UpdatesKeep}
use Rattle.hickory_server.specs.server.Serving.{Run, Step, denied, handled, next, none, unreadable}
use Rattle.hickory_server.specs.declared.server.serve.Incoming.{Incoming}
use Rattle.hickory_server.specs.declared.server.serve.Outcome as served

-- ---- the records of an update

module _ (Holds : OfZone) (folds : (f : Bool) (o : DomainName) (rs z : Records) → Holds o z → Holds o (after_updates f o z rs))
    (nexts : (o : DomainName) (z : Records) → Holds o z → Holds o (map (incremented o) z)) (sames : (o : DomainName) (z w : Records) → SameZone z w → Holds o z → Holds o w) where
  abbrev Left : DomainName → Outcome → Type 0
  Left o (Ok p) = Holds o p.0
  Left o (Err code) = Unit {0}

  found_left : (o : DomainName) (z : Records) (b : Bool) → Holds o z → Left o (cond b (Ok (map (incremented o) z, true)) (Err 2))
  found_left o z true h = nexts o z h
  found_left o z false h = tt

  changed_left : (f : Bool) (o : DomainName) (rs z : Records) (b : Bool) → Holds o z → Left o (cond b (with_next_serial o (after_updates f o z rs)) (Ok (z, false)))
  changed_left f o rs z true h = found_left o (after_updates f o z rs) (list_any (is_apex_soa o) (after_updates f o z rs)) (folds f o rs z h)
  changed_left f o rs z false h = h

  applied_left : (f : Bool) (o : DomainName) (rs z : Records) (increments : Bool) → Holds o z → Left o (applied f o z rs increments)
  applied_left f o rs z true h = changed_left f o rs z (any_change f o z rs) h
  applied_left f o rs z false h = folds f o rs z h

  outcome_left : (o : DomainName) (outcome : Outcome) (records : Records) (changed : Bool) → Left o outcome → IsOutcome outcome records changed → Holds o records
  outcome_left o (Ok p) records changed h e = sames o p.0 records (λ q. sym (e.0 q)) h
  outcome_left o (Err code) records changed h e = absurd e

  pub records_kept : RecordsKeep Holds
  records_kept f rs increments (Ok changed) old new u h =
      subst (λ o. Holds o (zone_records new.sets)) (sym (ap (λ (z : MemoryZone). z.origin) u.1))
      (outcome_left old.origin (applied f old.origin (zone_records old.sets) rs increments) (zone_records new.sets) changed
      (applied_left f old.origin rs (zone_records old.sets) increments h) u.0)
  records_kept f rs increments (Err fault) old new u h = subst (HoldsIn Holds) (sym u.1) h

module _ (identity : Identity) (same_type : OfOneType) where
  pub soa_kept : RecordsKeep HasOneSoa
  soa_kept =
      records_kept HasOneSoa (λ f o rs z h. one_fold identity same_type f o rs z h) (λ o z h. (next_soa h.0, one_next identity same_type o z h.0 h.1))
      (λ o z w e h. (h.0, one_soa_same identity same_type o z w h.0 e h.1))

  ns_next : (o : DomainName) (z : Records) → list_any (is_apex_ns o) (map (incremented o) z) ≡ list_any (is_apex_ns o) z
  ns_next o z = any_next o (is_apex_ns o) (λ q. ap (λ t. is_at o q && (t == 2)) (next_type q.rdata)) z

  pub ns_kept : RecordsKeep HasNs
  ns_kept =
      records_kept HasNs (λ f o rs z h. ns_stays same_type f o rs z h) (λ o z h. ns_next o z ∙ h)
      (λ o z w e h. sym (any_same identity (is_apex_ns o) (both_respect (is_at o) (is_type 2) (name_respects identity o) (type_respects identity 2)) z w e) ∙ h)

  other_next : (o : DomainName) (name : DomainName) (z : Records) → list_any (λ q. is_at name q && not (is_type 5 q)) (map (incremented o) z) ≡ list_any (λ q. is_at name q && not (is_type 5 q)) z
  other_next o name z = any_next o (λ q. is_at name q && not (is_type 5 q)) (λ q. ap (λ t. is_at name q && not (t == 5)) (next_type q.rdata)) z

  pub cnames_kept : RecordsKeep CnamesAlone
  cnames_kept =
      records_kept CnamesAlone (λ f o rs z h. cname_stays f o rs z h) (λ o z h name e. other_next o name z ∙ h name (sym (cname_next o name z) ∙ e))
      (λ o z w e h name k. sym (any_same identity (λ q. is_at name q && not (is_type 5 q)) (other_respects identity same_type name) z w e) ∙ h name (any_same identity (λ q. is_at name q && is_type 5 q) (cname_respects identity same_type name) z w e ∙ k))

-- ---- the zones of a server

front : {X : Type 0} (P : X → Type 0) (xs ys : List X) → All P (xs ++ ys) → All P xs
front P [] ys all = All-nil P
front P (x ∷ xs) ys all = All-cons P x xs (All-head P x (xs ++ ys) all) (front P xs ys (All-tail P x (xs ++ ys) all))

back : {X : Type 0} (P : X → Type 0) (xs ys : List X) → All P (xs ++ ys) → All P ys
back P [] ys all = all
back P (x ∷ xs) ys all = back P xs ys (All-tail P x (xs ++ ys) all)

module _ {S V : Type 0} (by : verifier.Ghosts V) (handler : handler_trait.Ghosts (UpdatableZone V)) (signature_for : S → Signer) (Holds : OfZone) (keeps : Keeps by Holds)
    (gives : (h after : UpdatableZone V) (request : ReceivedRequest) (now : ℕ) (answer : Result Bool UpdateFault) (context : Option TSigResponseContext)
    → handler.update_gives h request now answer context after → AnswersUpdate false by h (request, now) answer context after) where
  abbrev InHandler : UpdatableZone V → Type 0
  InHandler h = HoldsIn Holds h.zone

  abbrev InChain : DomainName × List (UpdatableZone V) → Type 0
  InChain zone = All InHandler zone.1

  handler_kept : (kind : ZoneType) (request : TimedRequest) (h : UpdatableZone V) (given : UpdateGiven) (after : UpdatableZone V)
      → HandlerUpdated handler kind request h given after → InHandler h → InHandler after
  handler_kept Primary request h (answer, context) after u k = keeps.0 false request answer context h after (gives h after request.0 request.1 answer context u.0) k
  handler_kept Secondary request h (answer, context) after u k = subst InHandler (sym u.2) k
  handler_kept External request h (answer, context) after u k = subst InHandler (sym u.2) k

  chain_kept : (request : TimedRequest) (chain chain' : List (UpdatableZone V)) (given : UpdateGiven)
      → FirstUpdated handler request chain given chain' → All InHandler chain → All InHandler chain'
  chain_kept request chain chain' given first all =
      let was = subst (All InHandler) first.before all in
      subst (All InHandler) (sym first.behind)
      (All-cons InHandler first.after first.others
      (handler_kept (handler.zone_type_of first.first) request first.first given first.after first.answers (All-head InHandler first.first first.others was))
      (All-tail InHandler first.first first.others was))

  zones_kept : (request : TimedRequest) (name : DomainName) (zones zones' : ZoneChains (UpdatableZone V)) (given : UpdateGiven)
      → ApexUpdated handler request name zones given zones' → HoldsInAll Holds zones → HoldsInAll Holds zones'
  zones_kept request name zones zones' given updated all =
      let changed = updated.changed in
      let was = subst (All InChain) changed.before all in
      let here = back InChain changed.lesser ((changed.apex, updated.chain) ∷ changed.greater) was in
      subst (All InChain) (sym changed.after)
      (All-append InChain changed.lesser ((changed.apex, updated.chain') ∷ changed.greater)
      (front InChain changed.lesser ((changed.apex, updated.chain) ∷ changed.greater) was)
      (All-cons InChain (changed.apex, updated.chain') changed.greater
      (chain_kept request updated.chain updated.chain' given updated.first (All-head InChain (changed.apex, updated.chain) changed.greater here))
      (All-tail InChain (changed.apex, updated.chain) changed.greater here)))

  reply_kept : (catalog : Catalog S (UpdatableZone V)) (request : ReceivedRequest) (edns : Option EdnsFields) (now : ℕ) (reply : Reply) (zones : List (DomainName × List (UpdatableZone V)))
      → UpdateReply (server_of handler signature_for catalog) request edns now reply zones → HoldsInAll Holds catalog.zones → HoldsInAll Holds zones
  reply_kept catalog request edns now reply zones (unnamed _ _ kept) all = subst (HoldsInAll Holds) (sym kept) all
  reply_kept catalog request edns now reply zones (no_apex _ _ _ kept) all = subst (HoldsInAll Holds) (sym kept) all
  reply_kept catalog request edns now reply zones (no_handler _ _ _ kept) all = subst (HoldsInAll Holds) (sym kept) all
  reply_kept catalog request edns now reply zones (answered {name = name} {answer = answer} {context = context} _ updated _ _ _) all = zones_kept (request, now) name catalog.zones zones (answer, context) updated all

  updates_kept : UpdatesKeep handler signature_for Holds
  updates_kept catalog request edns now replies zones answer all = reply_kept catalog request edns now answer.reply zones answer.is_reply all

  unanswered_kept : UnansweredUpdatesKeep handler signature_for Holds
  unanswered_kept catalog request now catalog_error.Memory zones left all = subst (HoldsInAll Holds) (sym left) all
  unanswered_kept catalog request now catalog_error.MemoryAfterUpdate zones left all = zones_kept (request, now) left.0 catalog.zones zones (Ok left.2, left.3) left.4 all

  request_kept : (catalog : Catalog S (UpdatableZone V)) (request : ReceivedRequest) (now : ℕ) (replies : List Reply) (zones : List (DomainName × List (UpdatableZone V)))
      → RequestAnswered (server_of handler signature_for catalog) request now replies zones → HoldsInAll Holds catalog.zones → HoldsInAll Holds zones
  request_kept catalog request now replies zones (refused _ _ kept) all = subst (HoldsInAll Holds) (sym kept) all
  request_kept catalog request now replies zones (asks _ _ answer) all = subst (HoldsInAll Holds) (sym answer.kept) all
  request_kept catalog request now replies zones (updates _ _ answer) all = reply_kept catalog request _ now answer.reply zones answer.is_reply all

  step_kept : (access : AccessSets) (catalog : Catalog S (UpdatableZone V)) (message : Incoming) (outcome : served.Outcome) (zones : List (DomainName × List (UpdatableZone V)))
      → Step access (server_of handler signature_for catalog) message outcome zones → HoldsInAll Holds catalog.zones → HoldsInAll Holds zones
  step_kept access catalog message outcome zones (denied _ _ kept) all = subst (HoldsInAll Holds) (sym kept) all
  step_kept access catalog message outcome zones (unreadable _ _ _ kept) all = subst (HoldsInAll Holds) (sym kept) all
  step_kept access catalog message outcome zones (handled {request = r} {replies = replies} _ _ answer _ _) all = request_kept catalog r message.now replies zones answer all

  run_kept : (access : AccessSets) (catalog : Catalog S (UpdatableZone V)) (zones : List (DomainName × List (UpdatableZone V))) (messages : List Incoming) (outcomes : List served.Outcome) (after : List (DomainName × List (UpdatableZone V)))
      → Run access (server_of handler signature_for catalog) zones messages outcomes after → HoldsInAll Holds zones → HoldsInAll Holds after
  run_kept access catalog zones _ _ _ none all = all
  run_kept access catalog zones _ _ after (next {between = between} {message = m} {outcome = o} {messages = ms} {outcomes = os} step rest) all =
      run_kept access catalog between ms os after rest (step_kept access (record catalog { zones = zones }) m o between step all)

  pub kept : RecordsKeep Holds → AreKept handler signature_for Holds
  kept records = record {
    records = records;
    updates = updates_kept;
    unanswered = unanswered_kept;
    runs = λ access catalog messages outcomes after run all. run_kept access catalog catalog.zones messages outcomes after run all;
  }
