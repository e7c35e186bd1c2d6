-- Messages change zones only by updates that the zones answer `Ok`.
use Rattle.std.proofs.Common.{◌≡◌, ◌∙◌, inl, inr, ℕ, List, ◌∷◌, Option, Some, Ok, Err, refl, sym, ap, subst, arith}
use Rattle.std.specs.Prelude.{Contains}
use Rattle.std.proofs.lemmas.List.Elements.{All-contains, Contains-append_right}
use Rattle.either.specs.declared.Either.TheVariants.{Left, Right}
use Rattle.wire_names.specs.rr.domain.DomainName.{DomainName}
use Rattle.wire_messages.specs.Numbers.{code_not_auth, code_not_imp}
use Rattle.hickory_base.specs.declared.errors.UpdateFault.TheVariants.{Code}
use Rattle.wire_messages.specs.op.EdnsFields.{EdnsFields}
use Rattle.wire_messages.specs.serialize.writing.Reply.{Reply}
use Rattle.hickory_base.specs.requests.Requests.{ReceivedRequest}
use Rattle.hickory_base.specs.zone_store.Lookups.{SignerContext, UpdateResult}
use Rattle.hickory_base.specs.declared.zone_store.handler.ZoneHandler.{Ghosts}
use Rattle.hickory_base.specs.declared.zone_store.handler.ZoneType.{ZoneType}
use Rattle.hickory_base.specs.declared.zone_store.handler.ZoneType.TheVariants.{External, Primary, Secondary}
use Rattle.hickory_catalog.proofs.lemmas.zones.PlacesInOrder.{same_after}
use Rattle.hickory_catalog.specs.replies.Signing.{Signer}
use Rattle.hickory_catalog.specs.requests.Requests.{RequestAnswered}
use Rattle.hickory_catalog.specs.requests.Requests as requests
use Rattle.hickory_catalog.specs.requests.Server.{server_of}
use Rattle.hickory_catalog.specs.updates.Updates.{ApexUpdated, FirstUpdated, HandlerUpdated, UpdateReply}
use Rattle.hickory_catalog.specs.updates.Updates as updates
use Rattle.hickory_catalog.specs.zones.Zones.{ChangesAt, ZoneChains}
use Rattle.hickory_catalog.specs.declared.catalog.Catalog.{Catalog}
use Rattle.hickory_store.specs.blocklist.BlockAnswers.{Blocklist}
use Rattle.hickory_store.specs.declared.updates.verifier.Verifier.{Ghosts as Verifies}
use Rattle.hickory_server.specs.server.ServedBy.{RequestServed, ServedBy, ZonesAnswer}
use Rattle.hickory_server.specs.server.ServedBy as by_rules
use Rattle.hickory_server.specs.server.Serving.{IsRequestOf, LeavesUnserved}
use Rattle.hickory_server.specs.declared.server.answer.Answer.{Answer}
use Rattle.hickory_server.specs.declared.server.rules.Rules.{Rules}
use Rattle.hickory_server.specs.declared.server.serve.Incoming.{Incoming}
use Rattle.hickory_server.specs.declared.server.serve.ServeError.{ServeError}
use Rattle.hickory_server.specs.declared.server.serve.ServeError.TheVariants as serve_error
use Rattle.served_zones.specs.ServedQueries.{AreMade, AreServedChains, IsServedChain, ZonesAreUpdated}
use Rattle.served_zones.specs.TakenUpdates.{Taken, by_answer, by_request, by_update, taken_by, taken_in, taken_without_reply}
use Rattle.served_zones.specs.ServedZones.{ServedHandler}
use Rattle.tsig.specs.declared.verifier.TsigVerifier.{TsigVerifier}
use Rattle.zones.specs.ZoneStates.{ZoneState}
use Rattle.zones.specs.ZoneUpdates.{Updates}

abbrev AnyList : Blocklist → Type 0
AnyList list = Unit {0}

module _ (handler : Ghosts ServedHandler) (by : Verifies TsigVerifier)
    (updated : (zone : ZoneState TsigVerifier) (r : ReceivedRequest) (now : ℕ) (answer : UpdateResult) (context : SignerContext) (after : ServedHandler) → handler.update_gives (Left zone) r now answer context after
    → (new : ZoneState TsigVerifier) × Updates by zone (r, now) answer context new × (after ≡ Left new)) where
  -- the handler of a zone is as before, or made the update
  abbrev Stays : ZoneState TsigVerifier → ReceivedRequest → ℕ → SignerContext → UpdateResult → ServedHandler → Type 0
  Stays zone r now context (Ok answer) after = (new : ZoneState TsigVerifier) × Updates by zone (r, now) (Ok answer) context new × (after ≡ Left new)
  Stays zone r now context (Err fault) after = after ≡ Left zone

  by_type : (type : ZoneType) (zone : ZoneState TsigVerifier) (r : ReceivedRequest) (now : ℕ) (answer : UpdateResult) (context : SignerContext) (after : ServedHandler)
      → HandlerUpdated handler type (r, now) (Left zone) (answer, context) after → Stays zone r now context answer after
  by_type Primary zone r now (Ok changed) context after made = updated zone r now (Ok changed) context after made.0
  by_type Primary zone r now (Err fault) context after made = made.1
  by_type Secondary zone r now (Ok changed) context after made = let no : ◌≡◌ {A = UpdateResult} (Ok changed) (Err (Code code_not_imp)) = made.0 in absurd cc
  by_type Secondary zone r now (Err fault) context after made = made.2
  by_type External zone r now (Ok changed) context after made = let no : ◌≡◌ {A = UpdateResult} (Ok changed) (Err (Code code_not_auth)) = made.0 in absurd cc
  by_type External zone r now (Err fault) context after made = made.2

  by_handler : (zone : ZoneState TsigVerifier) (first : ServedHandler) (r : ReceivedRequest) (now : ℕ) (answer : UpdateResult) (context : SignerContext) (after : ServedHandler) → first ≡ Left zone
      → HandlerUpdated handler (handler.zone_type_of first) (r, now) first (answer, context) after → Stays zone r now context answer after
  by_handler zone first r now answer context after is made =
      by_type (handler.zone_type_of (Left zone)) zone r now answer context after
      (subst (λ (h : ServedHandler). HandlerUpdated handler (handler.zone_type_of h) (r, now) h (answer, context) after) is made)

  module _ {S : Type 0} (signature_for : S → Signer) (catalog : Catalog S ServedHandler) (are : AreServedChains AnyList catalog.zones) (message : Incoming) (r : ReceivedRequest) (is_request : IsRequestOf message r) where
    by_first : (name : DomainName) (answer : UpdateResult) (context : SignerContext) (after : ZoneChains ServedHandler) (made : ApexUpdated handler (r, message.now) name catalog.zones (answer, context) after)
        (h : ServedHandler) → made.first.first ≡ h → IsServedChain AnyList (h ∷ made.first.others) → AreMade by message catalog.zones after (taken_by answer name (r, message.now))
    by_first name answer context after made (Right list) is no_zone = absurd no_zone
    by_first name answer context after made (Left zone) is lists = from answer (by_handler zone first.first r message.now answer context first.after is first.answers) where
      first : FirstUpdated handler (r, message.now) made.chain (answer, context) made.chain'
      first = made.first

      from : (answer : UpdateResult) → Stays zone r message.now context answer first.after → AreMade by message catalog.zones after (taken_by answer name (r, message.now))
      from (Err fault) same = same_after made.changed (first.behind ∙ ap (λ (h : ServedHandler). h ∷ first.others) (same ∙ sym is) ∙ sym first.before)
      from (Ok answer) (new, updates, same) =
          record {
            is_request = is_request;
            moment = refl;
            was = zone;
            is = new;
            others = first.others;
            changed = subst (λ (chain : List ServedHandler). ChangesAt catalog.zones name (Some (Left zone ∷ first.others)) (Some chain) after) (first.behind ∙ ap (λ (h : ServedHandler). h ∷ first.others) same)
                (subst (λ (chain : List ServedHandler). ChangesAt catalog.zones name (Some chain) (Some made.chain') after) (first.before ∙ ap (λ (h : ServedHandler). h ∷ first.others) is) made.changed);
            answer = answer;
            context = context;
            updates = updates;
          }

    by_apex : (name : DomainName) (answer : UpdateResult) (context : SignerContext) (after : ZoneChains ServedHandler) → ApexUpdated handler (r, message.now) name catalog.zones (answer, context) after
        → AreMade by message catalog.zones after (taken_by answer name (r, message.now))
    by_apex name answer context after made = by_first name answer context after made made.first.first refl (subst (IsServedChain AnyList) made.first.before its_chain) where
      changed : ChangesAt catalog.zones name (Some made.chain) (Some made.chain') after
      changed = made.changed

      its_chain : IsServedChain AnyList made.chain
      its_chain =
          let there : Contains ((changed.apex, made.chain) ∷ changed.greater) (changed.apex, made.chain) = (0, omega arith, refl) in
          let among = subst (λ (zs : ZoneChains ServedHandler). Contains zs (changed.apex, made.chain)) (sym changed.before) (Contains-append_right changed.lesser _ _ there) in
          All-contains (λ (s : DomainName × List ServedHandler). IsServedChain AnyList s.1) catalog.zones (changed.apex, made.chain) are among

    abbrev Are : ZoneChains ServedHandler → Taken → Type 0
    Are after taken = AreMade by message catalog.zones after taken

    of_update : (edns : Option EdnsFields) (reply : Reply) (after : ZoneChains ServedHandler) (u : UpdateReply (server_of handler signature_for catalog) r edns message.now reply after) → Are after (by_update u)
    of_update edns reply after (updates.unnamed _ _ kept) = kept
    of_update edns reply after (updates.no_apex _ _ _ kept) = kept
    of_update edns reply after (updates.no_handler _ _ _ kept) = kept
    of_update edns reply after (updates.answered {name = name} {answer = answer} {context = context} named made _ _ _) = by_apex name answer context after made

    of_request : (replies : List Reply) (after : ZoneChains ServedHandler) (a : RequestAnswered (server_of handler signature_for catalog) r message.now replies after) → Are after (by_answer a)
    of_request replies after (requests.refused _ _ kept) = kept
    of_request replies after (requests.asks _ _ query) = query.kept
    of_request replies after (requests.updates _ is_update update) = of_update _ update.reply after update.is_reply

    of_served : (rules : Rules) (sent : List (List ℕ)) (after : ZoneChains ServedHandler) (s : RequestServed rules (server_of handler signature_for catalog) r message.now sent after) → Are after (by_request s)
    of_served rules sent after (by_rules.refused _ _ _ kept) = kept
    of_served rules sent after (by_rules.truncated _ _ _ kept) = kept
    of_served rules sent after (by_rules.transferred _ _ _ kept) = kept
    of_served rules sent after (by_rules.passed _ (by_rules.above _ _ kept) _) = kept
    of_served rules sent after (by_rules.passed {replies = replies} _ (by_rules.own _ answered) _) = of_request replies after answered

  pub updated_so : {S : Type 0} (signature_for : S → Signer) → ZonesAreUpdated handler signature_for by
  updated_so signature_for rules catalog message after are = (λ answer served. of_answer answer served, λ e left. of_error e left) where
    of_answer : (answer : Answer) (s : ServedBy rules (server_of handler signature_for catalog) message answer after) → AreMade by message catalog.zones after (taken_in s)
    of_answer answer (by_rules.denied _ _ kept) = kept
    of_answer answer (by_rules.short _ _ _ kept) = kept
    of_answer answer (by_rules.response _ _ _ _ kept) = kept
    of_answer answer (by_rules.unreadable _ _ _ _ _ kept) = kept
    of_answer answer (by_rules.request {request = r} {sent = sent} _ _ _ is served _) = of_served signature_for catalog are message r is rules sent after served

    of_error : (e : ServeError) (left : LeavesUnserved rules.access (server_of handler signature_for catalog) message e after)
        → AreMade by message catalog.zones after (taken_without_reply rules.access (server_of handler signature_for catalog) message after e left)
    of_error serve_error.Memory left = left.1
    of_error serve_error.MemoryAfterHandling (allowed, r, is, sink, inl (some, replies, answered)) = of_request signature_for catalog are message r is replies after answered
    of_error serve_error.MemoryAfterHandling (allowed, r, is, sink, inr (none, empty, (fine, op, (name, named, changed, context, made)))) =
        by_apex signature_for catalog are message r is name (Ok changed) context after made
