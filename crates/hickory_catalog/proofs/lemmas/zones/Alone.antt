-- What a request to a zone comes to is what it comes to where that zone is the only one.
use Rattle.std.proofs.Common.{◌≡◌, ◌⊎◌, inl, inr, ℕ, zero, suc, ◌<◌, ◌≤◌, Bool, true, false, cond, List, [], ◌∷◌, ◌++◌, length, Option, Some, None, Result, Ok, Err, Contains, Any, refl, sym, ap, subst, ◌∙◌, arith}
use Rattle.std.specs.Prelude.{◌==◌, slice_index_or}
use Rattle.std.specs.Map.{keys_of}
use Rattle.std.proofs.lemmas.List.{map-append}
use Rattle.std.proofs.lemmas.List.Elements.{Contains-append_left, Contains-append_right, Contains-append_cases}
use Rattle.wire_messages.specs.op.EdnsFields.{EdnsFields}
use Rattle.wire_names.specs.rr.domain.DomainName.{DomainName}
use Rattle.wire_names.specs.rr.domain.NameOrder.{SameName, lower_name}
use Rattle.wire_messages.specs.serialize.writing.Reply.{Reply}
use Rattle.wire_messages.specs.declared.op.query.Query.{Query}
use Rattle.hickory_base.specs.requests.Questions.{one_query}
use Rattle.hickory_base.specs.requests.Requests.{ReceivedRequest}
use Rattle.hickory_base.specs.declared.errors.LookupError.{LookupError}
use Rattle.hickory_catalog.specs.requests.Alone.{IsOfZone, alone}
use Rattle.hickory_catalog.specs.zones.Find.{Finds, IsNearest, MayAnswer}
use Rattle.hickory_catalog.specs.queries.Queries.{AskedQuery, ChainReplies, QueryReplies, ZoneReplies, ZoneReply, lookup, no_zone, one, other_count, transfer, unanswered, untransferred, zone}
use Rattle.hickory_catalog.specs.queries.Queries as by_chain
use Rattle.hickory_catalog.specs.requests.Requests.{RequestAnswered, asks, refused, updates}
use Rattle.hickory_catalog.specs.requests.Server.{Server}
use Rattle.hickory_catalog.specs.updates.Updates.{ApexUpdated, FirstUpdated, UpdateGiven, UpdateReply, answered, no_apex, no_handler, unnamed, updated_zone, zone_named}
use Rattle.hickory_catalog.specs.transfers.WholeTransfers.{ChainTransfers, TransferReplies}
use Rattle.hickory_catalog.specs.transfers.WholeTransfers as whole
use Rattle.hickory_catalog.specs.zones.Zones.{AreInOrder, ChangesAt, ZoneChains}
use Rattle.hickory_catalog.proofs.lemmas.zones.Nearest.{MayBy, no_longer, same_length}
use Rattle.hickory_catalog.proofs.lemmas.zones.OneAnswer.{one_answer, one_nearest}

-- the name of an update is that of its one question
named_by : (query : Query) (name : DomainName) → zone_named (Ok query) ≡ Some name → name ≡ lower_name query.name
named_by query name named = which (query.query_type == 6) named where
  which : (b : Bool) → cond b (Some (lower_name query.name)) None ≡ Some name → name ≡ lower_name query.name
  which true e = cc
  which false e = absurd cc

named_of : (request : ReceivedRequest) (query : Query) (name : DomainName) → one_query request.message.queries.queries ≡ Ok query → updated_zone request ≡ Some name → name ≡ lower_name query.name
named_of request query name is named = named_by query name (subst (λ (r : Result Query LookupError). zone_named r ≡ Some name) is named)

-- an update that names a zone has one question
question_of : (result : Result Query LookupError) (name : DomainName) → zone_named result ≡ Some name → (query : Query) × (result ≡ Ok query) × (name ≡ lower_name query.name)
question_of (Ok query) name named = (query, refl, named_by query name named)
question_of (Err e) name named = absurd cc

module _ {V : Type 0} where
  -- one zone is the nearest where it is alone
  near_alone : (name : DomainName) (z : DomainName × V) → MayAnswer z.0 name → IsNearest (z ∷ []) name z
  near_alone name z may = record { among = (0, omega arith, refl); may_answer = may; longest = longest } where
    longest : (k : ℕ) (d : DomainName × V) → k < 1 → MayAnswer (slice_index_or (z ∷ []) k d).0 name → length (slice_index_or (z ∷ []) k d).0.labels ≤ length z.0.labels
    longest zero d lt also = omega arith
    longest (suc k) d lt also = absurd (omega (arith, lt))

  -- a zone of just that apex is the nearest
  exact_nearest : (zones : List (DomainName × V)) (name : DomainName) (z : DomainName × V) → Contains zones z → SameName z.0 name → IsNearest zones name z
  exact_nearest zones name z among same = record {
    among = among;
    may_answer = may name.is_fqdn refl;
    longest = λ k d h also. omega (arith, no_longer _ name also, same_length z.0 name same);
  } where
    may : (b : Bool) → name.is_fqdn ≡ b → MayBy b z.0 name
    may true e = (same.marks ∙ e, record { front = []; ends = sym same.labels })
    may false e = same

  exact_is : (zones : List (DomainName × V)) (name : DomainName) (z near : DomainName × V) → AreInOrder zones → Contains zones z → SameName z.0 name → IsNearest zones name near → z ≡ near
  exact_is zones name z near sorted among same nearest = one_nearest zones name z near sorted (exact_nearest zones name z among same) nearest

  any_alone : (P : DomainName × V → Type 0) (z : DomainName × V) → Any P (z ∷ []) → P z
  any_alone P z (zero, d, lt, is, p) = subst P (sym is) p
  any_alone P z (suc k, d, lt, is, p) = absurd (omega (arith, lt))

  pub contains_cases : (x z : DomainName × V) (xs : List (DomainName × V)) → Contains (x ∷ xs) z → (x ≡ z) ⊎ Contains xs z
  contains_cases x z xs (zero, lt, is) = inl is
  contains_cases x z xs (suc k, lt, is) = inr (k, omega (arith, lt), is)

  pub contains_behind : (x z : DomainName × V) (xs : List (DomainName × V)) → Contains xs z → Contains (x ∷ xs) z
  contains_behind x z xs (k, lt, is) = (suc k, omega (arith, lt), is)

module _ {H : Type 0} (server : Server H) (zones : List (DomainName × List H)) (chain : List H) (asked : AskedQuery) (edns : Option EdnsFields) (now : ℕ) where
  -- the replies of a chain do not depend on other zones
  reply_elsewhere : (reply : Reply) → ZoneReply server chain asked edns now reply → ZoneReply (record server { zones = zones }) chain asked edns now reply
  reply_elsewhere reply (untransferred a b c) = untransferred a b c
  reply_elsewhere reply (unanswered a b c d) = unanswered a b c d
  reply_elsewhere reply (lookup contents a b c d e f g) = lookup contents a b c d e f g

  replies_elsewhere : (replies : List Reply) → ZoneReplies server chain asked edns now replies → ZoneReplies (record server { zones = zones }) chain asked edns now replies
  replies_elsewhere replies (one {reply = reply} r is) = one (reply_elsewhere reply r) is
  replies_elsewhere replies (transfer a b c) = transfer a b c

-- the replies of the chain of a zone that may answer for the name are those where that zone is alone
pub chain_alone : {H : Type 0} (server : Server H) (zone_is : DomainName × List H) (request : ReceivedRequest) (query : Query) (edns : Option EdnsFields) (now : ℕ) (replies : List Reply)
    → one_query request.message.queries.queries ≡ Ok query → MayAnswer zone_is.0 (lower_name query.name)
    → ChainReplies server zone_is.1 request edns now replies → QueryReplies (alone server zone_is) request edns now replies
chain_alone server (key, chain) request query edns now replies is may (by_chain.other_count e r) = absurd cc
chain_alone server (key, chain) request query edns now replies is may (by_chain.asked {query = q} is_one r) =
    let same : q ≡ query = cc in
    let asked : AskedQuery = record { request = request; query = query } in
    let replied = subst (λ (x : Query). ZoneReplies server chain (record { request = request; query = x }) edns now replies) same r in
    zone is (key, near_alone (lower_name query.name) (key, chain) may) (replies_elsewhere server ((key, chain) ∷ []) chain asked edns now replies replied)

-- the replies of a chain that gives its zone do not depend on other zones
transfers_elsewhere : {H : Type 0} (server : Server H) (zones : List (DomainName × List H)) (chain : List H) (request : ReceivedRequest) (edns : Option EdnsFields) (now : ℕ) (replies : List Reply)
    → ChainTransfers server chain request edns now replies → ChainTransfers (record server { zones = zones }) chain request edns now replies
transfers_elsewhere server zones chain request edns now replies (whole.nobody a is) = whole.nobody a is
transfers_elsewhere server zones chain request edns now replies (whole.given a b) = whole.given a b

module _ {H : Type 0} (server : Server H) (key : DomainName) (chain : List H) (sorted : AreInOrder server.zones) (request : ReceivedRequest) (query : Query) (is_query : one_query request.message.queries.queries ≡ Ok query)
    (nearest : IsNearest server.zones (lower_name query.name) (key, chain)) (now : ℕ) where
  query_alone : (edns : Option EdnsFields) (replies : List Reply) → QueryReplies server request edns now replies → QueryReplies (alone server (key, chain)) request edns now replies
  query_alone edns replies (other_count e is) = absurd cc
  query_alone edns replies (no_zone {query = q} asked none is) =
      let same : q ≡ query = cc in
      absurd (let found = one_answer server.zones (lower_name query.name) None (Some chain) sorted (subst (λ (x : Query). Finds server.zones (lower_name x.name) None) same none) (key, nearest) in cc)
  query_alone edns replies (zone {query = q} {chain = c} is found r) =
      let same : q ≡ query = cc in
      let answers = one_answer server.zones (lower_name query.name) (Some c) (Some chain) sorted (subst (λ (x : Query). Finds server.zones (lower_name x.name) (Some c)) same found) (key, nearest) in
      let chains : c ≡ chain = cc in
      let asked : AskedQuery = record { request = request; query = query } in
      let by_query = subst (λ (x : Query). ZoneReplies server c (record { request = request; query = x }) edns now replies) same r in
      let by_chain = subst (λ (x : List H). ZoneReplies server x asked edns now replies) chains by_query in
      zone is_query (key, near_alone (lower_name query.name) (key, chain) nearest.may_answer) (replies_elsewhere server ((key, chain) ∷ []) chain asked edns now replies by_chain)

  pub transfer_alone : (edns : Option EdnsFields) (replies : List Reply) → TransferReplies server request edns now replies → TransferReplies (alone server (key, chain)) request edns now replies
  transfer_alone edns replies (whole.other_count e is) = absurd cc
  transfer_alone edns replies (whole.no_zone {query = q} asked none is) =
      let same : q ≡ query = cc in
      absurd (let found = one_answer server.zones (lower_name query.name) None (Some chain) sorted (subst (λ (x : Query). Finds server.zones (lower_name x.name) None) same none) (key, nearest) in cc)
  transfer_alone edns replies (whole.zone {query = q} {chain = c} asked found r) =
      let same : q ≡ query = cc in
      let answers = one_answer server.zones (lower_name query.name) (Some c) (Some chain) sorted (subst (λ (x : Query). Finds server.zones (lower_name x.name) (Some c)) same found) (key, nearest) in
      let chains : c ≡ chain = cc in
      let by_chain = subst (λ (x : List H). ChainTransfers server x request edns now replies) chains r in
      whole.zone is_query (key, near_alone (lower_name query.name) (key, chain) nearest.may_answer) (transfers_elsewhere server ((key, chain) ∷ []) chain request edns now replies by_chain)

  -- the zone of just the apex that an update names is this one
  updated_is : (name : DomainName) (z : DomainName × List H) → updated_zone request ≡ Some name → Contains server.zones z → SameName z.0 name → z ≡ (key, chain)
  updated_is name z named among same =
      exact_is server.zones (lower_name query.name) z (key, chain) sorted among (subst (λ (x : DomainName). SameName z.0 x) (named_of request query name is_query named) same) nearest

  -- the replies to an update where the zone is alone, and what becomes of its chain
  abbrev UpdatedAlone : Option EdnsFields → Reply → List (DomainName × List H) → Type 0
  UpdatedAlone edns reply after = (chain' : List H) × UpdateReply (alone server (key, chain)) request edns now reply ((key, chain') ∷ []) × Contains after (key, chain')

  stays : (after : List (DomainName × List H)) → after ≡ server.zones → Contains after (key, chain)
  stays after kept = subst (λ (zs : List (DomainName × List H)). Contains zs (key, chain)) (sym kept) nearest.among

  answered_alone : (name : DomainName) (given : UpdateGiven) (after : ZoneChains H) → updated_zone request ≡ Some name
      → ApexUpdated server.handler (request, now) name server.zones given after
      → (chain' : List H) × ApexUpdated server.handler (request, now) name ((key, chain) ∷ []) given ((key, chain') ∷ []) × Contains after (key, chain')
  answered_alone name given after named updated =
      let changed = updated.changed in
      let here : Contains ((changed.apex, updated.chain) ∷ changed.greater) (changed.apex, updated.chain) = (0, omega arith, refl) in
      let there : Contains ((changed.apex, updated.chain') ∷ changed.greater) (changed.apex, updated.chain') = (0, omega arith, refl) in
      let before = subst (λ (zs : List (DomainName × List H)). Contains zs (changed.apex, updated.chain)) (sym changed.before) (Contains-append_right changed.lesser _ _ here) in
      let behind = subst (λ (zs : List (DomainName × List H)). Contains zs (changed.apex, updated.chain')) (sym changed.after) (Contains-append_right changed.lesser _ _ there) in
      let same : (changed.apex, updated.chain) ≡ (key, chain) = updated_is name (changed.apex, updated.chain) named before changed.same in
      let apexes : changed.apex ≡ key = ap (λ (z : DomainName × List H). z.0) same in
      let chains : updated.chain ≡ chain = ap (λ (z : DomainName × List H). z.1) same in (
        updated.chain',
        record {
          chain = chain;
          chain' = updated.chain';
          first = subst (λ (x : List H). FirstUpdated server.handler (request, now) x given updated.chain') chains updated.first;
          changed = record {
            lesser = [];
            greater = [];
            apex = key;
            same = subst (λ (x : DomainName). SameName x name) apexes changed.same;
            before = refl;
            after = refl;
            below = λ k d lt. absurd (omega (arith, lt));
            above = λ k d lt. absurd (omega (arith, lt));
          };
        },
        subst (λ (x : DomainName). Contains after (x, updated.chain')) apexes behind,
      )

  update_alone : (edns : Option EdnsFields) (reply : Reply) (after : List (DomainName × List H)) → UpdateReply server request edns now reply after → UpdatedAlone edns reply after
  update_alone edns reply after (unnamed none is kept) = (chain, unnamed none is refl, stays after kept)
  update_alone edns reply after (no_apex {name = name} named apart is kept) = (
    chain,
    no_apex named (λ has. apart (nearest.among.0, (key, chain), nearest.among.1, nearest.among.2, any_alone (λ (z : DomainName × List H). SameName z.0 name) (key, chain) has)) is refl,
    stays after kept,
  )
  update_alone edns reply after (no_handler {name = name} named (k, z, lt, at, (same, empty)) is kept) =
      let this : z ≡ (key, chain) = updated_is name z named (k, lt, at) same in (
        chain,
        no_handler named (0, (key, chain), omega arith, refl, subst (λ (y : DomainName × List H). SameName y.0 name × (y.1 ≡ [])) this (same, empty)) is refl,
        stays after kept,
      )
  update_alone edns reply after (answered {name = name} {answer = answer} {context = context} named updated coded small s) =
      let r = answered_alone name (answer, context) after named updated in (r.0, answered named r.1 coded small s, r.2)

  pub request_alone : (replies : List Reply) (after : List (DomainName × List H)) → RequestAnswered server request now replies after
      → (chain' : List H) × RequestAnswered (alone server (key, chain)) request now replies ((key, chain') ∷ []) × Contains after (key, chain')
  request_alone replies after (refused f is kept) = (chain, refused f is refl, stays after kept)
  request_alone replies after (asks u op q) = (chain, asks u op (record { are_replies = query_alone _ replies q.are_replies; kept = refl }), stays after q.kept)
  request_alone replies after (updates u op a) =
      let r = update_alone _ a.reply after a.is_reply in (r.0, updates u op (record { reply = a.reply; is_reply = r.1; only = a.only }), r.2)

module _ {H : Type 0} (server : Server H) (request : ReceivedRequest) (now : ℕ) where
  keeps : (z : DomainName × List H) (after : List (DomainName × List H)) → after ≡ server.zones → Contains server.zones z → Contains after z
  keeps z after kept among = subst (λ (zs : List (DomainName × List H)). Contains zs z) (sym kept) among

  -- a zone that an update does not name
  module _ (z : DomainName × List H) (among : Contains server.zones z) (other : ¬ (IsOfZone server.zones request z)) (name : DomainName) (named : updated_zone request ≡ Some name) (was is : List H)
      (after : List (DomainName × List H)) (changed : ChangesAt server.zones name (Some was) (Some is) after) where
    not_changed : (changed.apex, was) ≡ z → ⊥
    not_changed same =
        let q = question_of (one_query request.message.queries.queries) name named in
        let exact : SameName z.0 (lower_name q.0.name) =
        subst (λ (x : DomainName). SameName z.0 x) q.2 (subst (λ (y : DomainName × List H). SameName y.0 name) same changed.same) in
        other (record { query = q.0; asks = q.1; nearest = exact_nearest server.zones (lower_name q.0.name) z among exact })

    placed : Contains (changed.lesser ++ ((changed.apex, was) ∷ changed.greater)) z → Contains (changed.lesser ++ ((changed.apex, is) ∷ changed.greater)) z
    placed here = by_part (Contains-append_cases changed.lesser ((changed.apex, was) ∷ changed.greater) z here) where
      by_place : ((changed.apex, was) ≡ z) ⊎ Contains changed.greater z → Contains ((changed.apex, is) ∷ changed.greater) z
      by_place (inl same) = absurd (not_changed same)
      by_place (inr behind) = contains_behind (changed.apex, is) z changed.greater behind

      by_part : Contains changed.lesser z ⊎ Contains ((changed.apex, was) ∷ changed.greater) z → Contains (changed.lesser ++ ((changed.apex, is) ∷ changed.greater)) z
      by_part (inl left) = Contains-append_left changed.lesser ((changed.apex, is) ∷ changed.greater) z left
      by_part (inr right) = Contains-append_right changed.lesser ((changed.apex, is) ∷ changed.greater) z (by_place (contains_cases (changed.apex, was) z changed.greater right))

    stays_beside : Contains after z
    stays_beside = subst (λ (zs : List (DomainName × List H)). Contains zs z) (sym changed.after) (placed (subst (λ (zs : List (DomainName × List H)). Contains zs z) changed.before among))

  update_stays : (z : DomainName × List H) → Contains server.zones z → ¬ (IsOfZone server.zones request z) → (edns : Option EdnsFields) (reply : Reply) (after : List (DomainName × List H))
      → UpdateReply server request edns now reply after → Contains after z
  update_stays z among other edns reply after (unnamed _ _ kept) = keeps z after kept among
  update_stays z among other edns reply after (no_apex _ _ _ kept) = keeps z after kept among
  update_stays z among other edns reply after (no_handler _ _ _ kept) = keeps z after kept among
  update_stays z among other edns reply after (answered {name = name} named updated _ _ _) = stays_beside z among other name named updated.chain updated.chain' after updated.changed

  pub request_stays : (replies : List Reply) (after : List (DomainName × List H)) (z : DomainName × List H) → Contains server.zones z → ¬ (IsOfZone server.zones request z)
      → RequestAnswered server request now replies after → Contains after z
  request_stays replies after z among other (refused _ _ kept) = keeps z after kept among
  request_stays replies after z among other (asks _ _ q) = keeps z after q.kept among
  request_stays replies after z among other (updates _ _ a) = update_stays z among other _ a.reply after a.is_reply

  -- apexes stay
  changed_apexes : (name : DomainName) (was is : List H) (after : List (DomainName × List H)) → ChangesAt server.zones name (Some was) (Some is) after → keys_of after ≡ keys_of server.zones
  changed_apexes name was is after changed =
      ap keys_of changed.after ∙ map-append (λ (z : DomainName × List H). z.0) changed.lesser ((changed.apex, is) ∷ changed.greater)
      ∙ sym (map-append (λ (z : DomainName × List H). z.0) changed.lesser ((changed.apex, was) ∷ changed.greater)) ∙ sym (ap keys_of changed.before)

  update_apexes : (edns : Option EdnsFields) (reply : Reply) (after : List (DomainName × List H)) → UpdateReply server request edns now reply after → keys_of after ≡ keys_of server.zones
  update_apexes edns reply after (unnamed _ _ kept) = ap keys_of kept
  update_apexes edns reply after (no_apex _ _ _ kept) = ap keys_of kept
  update_apexes edns reply after (no_handler _ _ _ kept) = ap keys_of kept
  update_apexes edns reply after (answered {name = name} _ updated _ _ _) = changed_apexes name updated.chain updated.chain' after updated.changed

  pub request_apexes : (replies : List Reply) (after : List (DomainName × List H)) → RequestAnswered server request now replies after → keys_of after ≡ keys_of server.zones
  request_apexes replies after (refused _ _ kept) = ap keys_of kept
  request_apexes replies after (asks _ _ q) = ap keys_of q.kept
  request_apexes replies after (updates _ _ a) = update_apexes _ a.reply after a.is_reply
