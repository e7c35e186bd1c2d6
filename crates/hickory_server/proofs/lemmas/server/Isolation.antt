-- From single steps to runs: each zone is served as if it were the only one.
use Rattle.std.proofs.Common.{◌≡◌, ◌∙◌, ◌⊎◌, inl, inr, ℕ, ◌<◌, ◌≤◌, List, [], ◌∷◌, length, get_or, Ok, Contains, refl, sym, ap, subst, arith}
use Rattle.std.proofs.lemmas.List.{get_or-map, get_or_default}
use Rattle.std.proofs.lemmas.Map.Entries.{length-keys_of}
use Rattle.std.specs.List.Sorted.{IsStrictlySortedBy}
use Rattle.std.specs.Map.{keys_of}
use Rattle.wire_names.specs.rr.domain.DomainName.{DomainName}
use Rattle.wire_names.specs.rr.domain.NameOrder.{lower_name, name_cmp}
use Rattle.wire_reading.specs.serialize.reading.MessageReading.{Fault, Reads}
use Rattle.wire_names.specs.declared.error.DecodeError.{DecodeError}
use Rattle.wire_reading.specs.declared.op.message.Message.{Message}
use Rattle.wire_messages.specs.declared.op.query.Query.{Query}
use Rattle.server_limits.specs.Access.{AccessSets}
use Rattle.hickory_base.specs.requests.Questions.{one_query}
use Rattle.hickory_base.specs.requests.RequestReading.{message_of}
use Rattle.hickory_base.specs.requests.Requests.{ReceivedRequest}
use Rattle.hickory_base.specs.declared.zone_store.handler.ZoneHandler.{Ghosts}
use Rattle.hickory_catalog.specs.requests.Alone.{ApexesStay, IsOfZone, OfZoneIsDecided, OneChain, OthersStay, ServedAlone}
use Rattle.hickory_catalog.specs.zones.Find.{IsNearest, MayAnswer}
use Rattle.hickory_catalog.specs.requests.Server.{Server, server_of}
use Rattle.hickory_catalog.specs.replies.Signing.{Signer}
use Rattle.hickory_catalog.specs.zones.Zones.{AreInOrder}
use Rattle.hickory_catalog.specs.declared.catalog.Catalog.{Catalog}
use Rattle.hickory_server.specs.server.Isolation.{IsToZone, RunBeside, elsewhere, to_zone}
use Rattle.hickory_server.specs.server.Isolation as beside
use Rattle.hickory_server.specs.server.Serving.{IsRequestOf, Run, Step, denied, handled, next, none, unreadable}
use Rattle.hickory_server.specs.declared.server.serve.Incoming.{Incoming}
use Rattle.hickory_server.specs.declared.server.serve.Outcome.{Outcome}

-- ---- zones of the same apexes

module _ {V : Type 0} (zones others : List (DomainName × V)) (same : keys_of zones ≡ keys_of others) where
  as_many : length zones ≡ length others
  as_many = sym (length-keys_of zones) ∙ ap length same ∙ length-keys_of others

  apex_at : (k : ℕ) (d : DomainName × V) → k < length zones → (get_or zones k d).0 ≡ (get_or others k d).0
  apex_at k d lt =
      let there : k < length others = omega (arith, as_many) in
      sym (get_or-map (λ (z : DomainName × V). z.0) zones k d d.0 lt) ∙ ap (λ (ks : List DomainName). get_or ks k d.0) same ∙ get_or-map (λ (z : DomainName × V). z.0) others k d d.0 there

  -- what is among the one is, by its apex, among the other
  among_others : (apex : DomainName) (value : V) → Contains zones (apex, value) → (other : V) × Contains others (apex, other)
  among_others apex value (k, lt, at) =
      let d : DomainName × V = (apex, value) in
      let there : k < length others = omega (arith, as_many) in
      let z : DomainName × V = get_or others k d in
      let key : z.0 ≡ apex = sym (apex_at k d lt) ∙ ap (λ (x : DomainName × V). x.0) at in
      let made : DomainName × V = (apex, z.1) in
      let pair : z ≡ made = ap (λ (a : DomainName). let x : DomainName × V = (a, z.1) in x) key in
      (z.1, (k, there, get_or_default others k made d there ∙ pair))

  -- so is the nearest zone
  nearest_other : (name apex : DomainName) (value : V) → IsNearest zones name (apex, value) → (other : V) × IsNearest others name (apex, other)
  nearest_other name apex value n =
      let among = among_others apex value n.among in (
        among.0,
        record {
          among = among.1;
          may_answer = n.may_answer;
          longest = λ k d lt.
              let here : k < length zones = omega (arith, as_many) in
              subst (λ (a : DomainName). MayAnswer a name → length a.labels ≤ length apex.labels) (apex_at k d here) (n.longest k d here);
        },
      )

module _ {S H : Type 0} (handler : Ghosts H) (signature_for : S → Signer) (access : AccessSets) (catalog : Catalog S H) (apex : DomainName) where
  abbrev server : Server H
  server = server_of handler signature_for catalog

  pub run_of_all : (zones : List (DomainName × List H)) (messages : List Incoming) (outcomes : List Outcome) (after : List (DomainName × List H)) (to : List Incoming) (of : List Outcome)
      → RunBeside access server apex zones messages outcomes after to of → Run access server zones messages outcomes after
  run_of_all zones _ _ _ _ _ beside.none = none
  run_of_all zones _ _ after _ _ (to_zone {between = between} {messages = ms} {outcomes = os} {to = to} {of = of} _ step rest) = next step (run_of_all between ms os after to of rest)
  run_of_all zones _ _ after _ _ (elsewhere {between = between} {messages = ms} {outcomes = os} {to = to} {of = of} _ step rest) = next step (run_of_all between ms os after to of rest)

  module _ (same : (bytes : List ℕ) (m n : Message) → Reads bytes m → Reads bytes n → m ≡ n) (no_fault : (bytes : List ℕ) (m : Message) (e : DecodeError) → Reads bytes m → Fault bytes e → ⊥)
      (served : ServedAlone handler signature_for) (others : OthersStay handler signature_for) (apexes : ApexesStay handler signature_for) (one_chain : OneChain H) (decided : OfZoneIsDecided H) where
    -- a message is read as requests of the same questions
    pub of_zone_too : (zones : List (DomainName × List H)) (message : Incoming) (request : ReceivedRequest) (chain : List H) → IsRequestOf message request → IsToZone access zones (apex, chain) message → IsOfZone zones request (apex, chain)
    of_zone_too zones message request chain is to =
        let messages : message_of request.message ≡ message_of to.request.message = same message.bytes.items (message_of request.message) (message_of to.request.message) is.reads to.is_request.reads in
        let queries : request.message.queries.queries ≡ to.request.message.queries.queries = ap (λ (m : Message). m.queries) messages in
        record {
          query = to.of_zone.query;
          asks = subst (λ (qs : List Query). one_query qs ≡ Ok to.of_zone.query) (sym queries) to.of_zone.asks;
          nearest = to.of_zone.nearest;
        }

    pub step_alone : (zones between : List (DomainName × List H)) (message : Incoming) (outcome : Outcome) (chain : List H) → AreInOrder zones → IsToZone access zones (apex, chain) message
        → Step access (record server { zones = zones }) message outcome between
        → (chain' : List H) × Step access (record server { zones = (apex, chain) ∷ [] }) message outcome ((apex, chain') ∷ []) × Contains between (apex, chain')
    step_alone zones between message outcome chain sorted to (denied refuses _ _) = absurd (refuses to.allowed)
    step_alone zones between message outcome chain sorted to (unreadable _ fault _ _) = absurd (no_fault message.bytes.items (message_of to.request.message) fault.fault to.is_request.reads fault.first)
    step_alone zones between message outcome chain sorted to (handled {request = r} {replies = replies} allowed is answered encoded out) =
        let of_zone : IsOfZone zones r (apex, chain) = of_zone_too zones message r chain is to in
        let alone = served (record catalog { zones = zones }) r message.now replies between (apex, chain) sorted of_zone answered in
        (alone.0, handled allowed is alone.1 encoded out, alone.2)

    keeps : (zones between : List (DomainName × List H)) (chain : List H) → between ≡ zones → Contains zones (apex, chain) → Contains between (apex, chain)
    keeps zones between chain kept among = subst (λ (zs : List (DomainName × List H)). Contains zs (apex, chain)) (sym kept) among

    pub step_stays : (zones between : List (DomainName × List H)) (message : Incoming) (outcome : Outcome) (chain : List H) → Contains zones (apex, chain) → ¬ (IsToZone access zones (apex, chain) message)
        → Step access (record server { zones = zones }) message outcome between → Contains between (apex, chain)
    step_stays zones between message outcome chain among other (denied _ _ kept) = keeps zones between chain kept among
    step_stays zones between message outcome chain among other (unreadable _ _ _ kept) = keeps zones between chain kept among
    step_stays zones between message outcome chain among other (handled {request = r} {replies = replies} allowed is answered encoded out) =
        others (record catalog { zones = zones }) r message.now replies between (apex, chain) among
        (λ of_zone. other (record { allowed = allowed; request = r; is_request = is; of_zone = of_zone })) answered

    step_apexes : (zones between : List (DomainName × List H)) (message : Incoming) (outcome : Outcome) → Step access (record server { zones = zones }) message outcome between → keys_of between ≡ keys_of zones
    step_apexes zones between message outcome (denied _ _ kept) = ap keys_of kept
    step_apexes zones between message outcome (unreadable _ _ _ kept) = ap keys_of kept
    step_apexes zones between message outcome (handled {request = r} {replies = replies} _ _ answered _ _) = apexes (record catalog { zones = zones }) r message.now replies between answered

    step_order : (zones between : List (DomainName × List H)) (message : Incoming) (outcome : Outcome) → AreInOrder zones → Step access (record server { zones = zones }) message outcome between → AreInOrder between
    step_order zones between message outcome sorted step = subst (λ (keys : List DomainName). IsStrictlySortedBy name_cmp keys) (sym (step_apexes zones between message outcome step)) sorted

    pub isolated : (zones : List (DomainName × List H)) (chain : List H) (messages : List Incoming) (outcomes : List Outcome) (after : List (DomainName × List H)) (to : List Incoming) (of : List Outcome)
        → AreInOrder zones → Contains zones (apex, chain) → RunBeside access server apex zones messages outcomes after to of
        → (chain' : List H) × Run access server ((apex, chain) ∷ []) to of ((apex, chain') ∷ []) × Contains after (apex, chain')
    isolated zones chain _ _ _ _ _ sorted among beside.none = (chain, none, among)
    isolated zones chain _ _ after _ _ sorted among (to_zone {between = between} {message = m} {outcome = o} {messages = ms} {outcomes = os} {to = to} {of = of} {chain = c} is step rest) =
        let same : c ≡ chain = one_chain zones apex c chain sorted is.of_zone.nearest.among among in
        let first = step_alone zones between m o chain sorted (subst (λ (x : List H). IsToZone access zones (apex, x) m) same is) step in
        let behind = isolated between first.0 ms os after to of (step_order zones between m o sorted step) first.2 rest in
        (behind.0, next first.1 behind.1, behind.2)
    isolated zones chain _ _ after _ _ sorted among (elsewhere {between = between} {message = m} {outcome = o} {messages = ms} {outcomes = os} {to = to} {of = of} other step rest) =
        isolated between chain ms os after to of (step_order zones between m o sorted step) (step_stays zones between m o chain among (other chain) step) rest

    -- whether a message is to the zone
    abbrev ToZoneOrNot : List (DomainName × List H) → Incoming → Type 0
    ToZoneOrNot zones message = ((chain : List H) × IsToZone access zones (apex, chain) message) ⊎ ((chain : List H) → ¬ (IsToZone access zones (apex, chain) message))

    to_zone_decided : (zones between : List (DomainName × List H)) (message : Incoming) (outcome : Outcome) → Step access (record server { zones = zones }) message outcome between → ToZoneOrNot zones message
    to_zone_decided zones between message outcome (denied refuses _ _) = inr (λ chain to. refuses to.allowed)
    to_zone_decided zones between message outcome (unreadable _ fault _ _) = inr (λ chain to. no_fault message.bytes.items (message_of to.request.message) fault.fault to.is_request.reads fault.first)
    to_zone_decided zones between message outcome (handled {request = r} allowed is _ _ _) = by (decided zones r apex) where
      by : ((chain : List H) × IsOfZone zones r (apex, chain)) ⊎ ((chain : List H) → ¬ (IsOfZone zones r (apex, chain))) → ToZoneOrNot zones message
      by (inl of) = inl (of.0, record { allowed = allowed; request = r; is_request = is; of_zone = of.1 })
      by (inr other) = inr (λ chain to. other chain (of_zone_too zones message r chain is to))

    -- which messages of a run are to the zone, and what becomes of those
    abbrev Beside : List (DomainName × List H) → List Incoming → List Outcome → List (DomainName × List H) → Type 0
    Beside zones messages outcomes after = (to : List Incoming) × (of : List Outcome) × RunBeside access server apex zones messages outcomes after to of

    beside_next : (zones between after : List (DomainName × List H)) (message : Incoming) (outcome : Outcome) (messages : List Incoming) (outcomes : List Outcome) → Step access (record server { zones = zones }) message outcome between
        → ToZoneOrNot zones message → Beside between messages outcomes after → Beside zones (message ∷ messages) (outcome ∷ outcomes) after
    beside_next zones between after message outcome messages outcomes step (inl is) (to, of, rest) = (message ∷ to, outcome ∷ of, to_zone is.1 step rest)
    beside_next zones between after message outcome messages outcomes step (inr other) (to, of, rest) = (to, of, elsewhere other step rest)

    pub run_beside : (zones : List (DomainName × List H)) (messages : List Incoming) (outcomes : List Outcome) (after : List (DomainName × List H)) → Run access server zones messages outcomes after → Beside zones messages outcomes after
    run_beside zones _ _ _ none = ([], [], beside.none)
    run_beside zones _ _ after (next {between = between} {message = m} {outcome = o} {messages = ms} {outcomes = os} step rest) =
        beside_next zones between after m o ms os step (to_zone_decided zones between m o step) (run_beside between ms os after rest)

    -- a run and, beside it, the run of the zone alone
    pub run_isolated : (zones : List (DomainName × List H)) (chain : List H) (messages : List Incoming) (outcomes : List Outcome) (after : List (DomainName × List H))
        → AreInOrder zones → Contains zones (apex, chain) → Run access server zones messages outcomes after
        → (to : List Incoming) × (of : List Outcome) × (chain' : List H) × RunBeside access server apex zones messages outcomes after to of × Run access server ((apex, chain) ∷ []) to of ((apex, chain') ∷ []) × Contains after (apex, chain')
    run_isolated zones chain messages outcomes after sorted among run = both (run_beside zones messages outcomes after run) where
      both : Beside zones messages outcomes after
          → (to : List Incoming) × (of : List Outcome) × (chain' : List H) × RunBeside access server apex zones messages outcomes after to of × Run access server ((apex, chain) ∷ []) to of ((apex, chain') ∷ []) × Contains after (apex, chain')
      both (to, of, here) = let alone = isolated zones chain messages outcomes after to of sorted among here in (to, of, alone.0, here, alone.1, alone.2)

    to_zone_too : (zones others : List (DomainName × List H)) (message : Incoming) (chain : List H) → keys_of zones ≡ keys_of others → IsToZone access zones (apex, chain) message
        → (other : List H) × IsToZone access others (apex, other) message
    to_zone_too zones others message chain same to =
        let n = nearest_other zones others same (lower_name to.of_zone.query.name) apex chain to.of_zone.nearest in
        (n.0, record { allowed = to.allowed; request = to.request; is_request = to.is_request; of_zone = record { query = to.of_zone.query; asks = to.of_zone.asks; nearest = n.1 } })

    -- which messages of a run are to the zone is decided in one way
    pub one_beside : (zones others : List (DomainName × List H)) → keys_of zones ≡ keys_of others
        → (messages : List Incoming) (outcomes : List Outcome) (after after' : List (DomainName × List H)) (to to' : List Incoming) (of of' : List Outcome)
        → RunBeside access server apex zones messages outcomes after to of → RunBeside access server apex others messages outcomes after' to' of' → (to ≡ to') × (of ≡ of')
    one_beside zones others same _ _ _ _ _ _ _ _ beside.none beside.none = (refl, refl)
    one_beside zones others same _ _ after after' _ _ _ _ (to_zone {between = b} {message = m} {outcome = o} {messages = ms} {outcomes = os} {to = to} {of = of} is step rest) (to_zone {between = b'} {to = to'} {of = of'} is' step' rest') =
        let keys : keys_of b ≡ keys_of b' = step_apexes zones b m o step ∙ same ∙ sym (step_apexes others b' m o step') in
        let behind = one_beside b b' keys ms os after after' to to' of of' rest rest' in
        (ap (λ (xs : List Incoming). m ∷ xs) behind.0, ap (λ (xs : List Outcome). o ∷ xs) behind.1)
    one_beside zones others same _ _ after after' _ _ _ _ (to_zone {message = m} {chain = chain} is step rest) (elsewhere other step' rest') =
        let there = to_zone_too zones others m chain same is in absurd (other there.0 there.1)
    one_beside zones others same _ _ after after' _ _ _ _ (elsewhere {message = m} other step rest) (to_zone {chain = chain} is step' rest') =
        let there = to_zone_too others zones m chain (sym same) is in absurd (other there.0 there.1)
    one_beside zones others same _ _ after after' _ _ _ _ (elsewhere {between = b} {message = m} {outcome = o} {messages = ms} {outcomes = os} {to = to} {of = of} other step rest) (elsewhere {between = b'} {to = to'} {of = of'} other' step' rest') =
        let keys : keys_of b ≡ keys_of b' = step_apexes zones b m o step ∙ same ∙ sym (step_apexes others b' m o step') in
        one_beside b b' keys ms os after after' to to' of of' rest rest'
