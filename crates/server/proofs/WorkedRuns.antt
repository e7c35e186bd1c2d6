-- From what the calls of a server say to the steps of a run.
use Rattle.std.proofs.Common.{◌≡◌, ◌∙◌, ◌++◌, ◌∷◌, [], ℕ, Bool, List, Option, Some, None, Result, Ok, Err, IfErr, IfOk, IsOk, OnErr, OnOk, ap, arith, codes, inl, inr, refl, subst, sym, take}
use Rattle.std.proofs.lemmas.List.Elements.{All-from_recursion}
use Rattle.std.specs.List.{AllZip}
use Rattle.std.specs.declared.net.SocketAddr.{SocketAddr}
use Rattle.wire_messages.specs.declared.protocol.Protocol.{Protocol}
use Rattle.wire_messages.specs.declared.protocol.Protocol.TheVariants.{Tcp}
use Rattle.hickory_base.specs.declared.zone_store.handler.ZoneHandler.{Ghosts}
use Rattle.hickory_catalog.specs.replies.Signing.{Signer}
use Rattle.hickory_catalog.specs.zones.Zones.{ZoneChains}
use Rattle.hickory_server.specs.server.ServedBy.{Arrival, arrival}
use Rattle.hickory_server.specs.declared.server.answer.Answer.{Answer}
use Rattle.hickory_server.specs.declared.server.answer.Answer.TheVariants as answers
use Rattle.hickory_server.specs.declared.server.serve.Incoming.{Incoming}
use Rattle.hickory_server.specs.declared.server.serve.ServeError.{ServeError}
use Rattle.hickory_server.specs.declared.server.serve.ServeError.TheVariants as errors
use Rattle.served_zones.specs.ServedZones.{ServedHandler}
use Rattle.server_limits.specs.Limits.{Limits}
use Rattle.server_reports.specs.declared.log.QueryLog.{QueryLog}
use Rattle.wire_names.specs.rr.domain.NameText.{IsNameByte, IsNameText, IsTextLabel, name_text}
use Rattle.signed_server.specs.KeyedServers.{over}
use Rattle.signed_server.specs.ServedWithKeys.{LeavesWithKeys, ServedWithKeys}
use Rattle.signed_server.specs.declared.placeholders.LeftToServer.{LeftToServer}
use Rattle.server.specs.Limited.{AreLimitsOf}
use Rattle.server.specs.Run.{Answers, AreKept, CameInTurn, Event, IsAsBefore, IsOfStream, Run, StreamGoesOn, arrived, first_came, goes_on, keyed, none_came}
use Rattle.server.specs.Run.Event.{message_came}
use Rattle.server.specs.Serving.{EndsStream, Exchange, IsAnsweredStream, IsRefused, StreamBytes, next, none, standing_of, waiting_in}
use Rattle.server.specs.Settings.{with_zones, zones_of}
use Rattle.server.specs.declared.answering.StreamAnswer.{StreamAnswer}
use Rattle.server.specs.declared.answering.Refusal.{Refusal}
use Rattle.server.specs.declared.answering.Refusal.TheVariants.{Denied, Memory, MemoryAfterHandling, Response, Unreadable}
use Rattle.server.specs.declared.service.Service.{Service}

pub on_ok : {T E P : Type 0} (result : Result T E) → P → OnOk result P
on_ok (Ok value) holds = holds
on_ok (Err e) holds = tt

pub then_ok : {T E P Q : Type 0} (result : Result T E) → OnOk result P → (P → Q) → OnOk result Q
then_ok (Ok value) holds then = then holds
then_ok (Err e) holds then = tt

pub then_err : {T E P Q : Type 0} (result : Result T E) → OnErr result P → (P → Q) → OnErr result Q
then_err (Ok value) holds then = tt
then_err (Err e) holds then = then holds

pub of_ok : {T E P : Type 0} (result : Result T E) → IsOk result → OnOk result P → P
of_ok (Ok value) is holds = holds
of_ok (Err e) is holds = absurd cc

-- ---- settings

pub named_k : (is_fqdn : Bool) (text : List ℕ) → text ≡ name_text (codes "k" ∷ []) is_fqdn → IsNameText text (record { labels = codes "k" ∷ []; is_fqdn = is_fqdn })
named_k is_fqdn text spelled = record {
  some = λ is. absurd cc;
  each = All-from_recursion IsTextLabel (codes "k" ∷ []) (inr ((omega arith, omega arith), All-from_recursion IsNameByte (codes "k") (inl (omega arith, omega arith), tt)), tt);
  short = omega arith;
  spelled = spelled;
}

pub none_at_0 : (slip : ℕ) (limits : Option Limits) → AreLimitsOf 0 slip limits → limits ≡ None
none_at_0 slip None is = refl
none_at_0 slip (Some limits) is = absurd (is.0 refl)

module _ (handler : Ghosts ServedHandler) (signature_for : LeftToServer → Signer) (old : Service) (message : Incoming) (bytes : List ℕ) (is : bytes ≡ message.bytes.items) (after : ZoneChains ServedHandler) where
  served : (answer : Answer) → ServedWithKeys (keyed handler signature_for old) (arrival bytes message.src message.protocol message.now) answer after → Answers handler signature_for old message (Ok answer) after
  served answer s = subst (λ (b : List ℕ). ServedWithKeys (keyed handler signature_for old) (arrival b message.src message.protocol message.now) answer after) is s

  left : (e : ServeError) → LeavesWithKeys (keyed handler signature_for old) (arrival bytes message.src message.protocol message.now) e after → Answers handler signature_for old message (Err e) after
  left e s = subst (λ (b : List ℕ). LeavesWithKeys (keyed handler signature_for old) (arrival b message.src message.protocol message.now) e after) is s

  pub answered_so : (P : ℕ → Type 0) (says : (end : ℕ) → P end
      → (sent : List (List ℕ)) × ServedWithKeys (keyed handler signature_for old) (arrival bytes message.src message.protocol message.now) (answers.Replies sent) after)
      (result : Result ℕ Refusal) → IfOk result P
      → IfErr result (λ refusal. IsRefused (keyed handler signature_for old) (arrival bytes message.src message.protocol message.now) refusal after)
      → (outcome : Result Answer ServeError) × Answers handler signature_for old message outcome after
  answered_so P says (Ok end) ok err = let (sent, s) = says end ok in (Ok (answers.Replies sent), served (answers.Replies sent) s)
  answered_so P says (Err Denied) ok err = (Ok answers.Denied, served answers.Denied err)
  answered_so P says (Err Response) ok err = (Ok answers.Response, served answers.Response err)
  answered_so P says (Err Unreadable) ok err = (Ok answers.Unreadable, served answers.Unreadable err)
  answered_so P says (Err Memory) ok err = (Err errors.Memory, left errors.Memory err)
  answered_so P says (Err MemoryAfterHandling) ok err = (Err errors.MemoryAfterHandling, left errors.MemoryAfterHandling err)

-- ---- the messages of a stream

abbrev Zones : Type 0
Zones = ZoneChains ServedHandler

module _ (handler : Ghosts ServedHandler) (signature_for : LeftToServer → Signer) (source : SocketAddr) (now : ℕ) (old : Service) where
  came_so : (message : Incoming) (bytes : List ℕ) → IsOfStream source now message bytes → arrival bytes source Tcp now ≡ arrived message
  came_so message bytes is = sym (
      ap (λ (b : List ℕ). arrival b message.src message.protocol message.now) is.bytes_are
      ∙ ap (λ (from : SocketAddr). arrival bytes from message.protocol message.now) is.source_is
      ∙ ap (λ (over_it : Protocol). arrival bytes source over_it message.now) is.protocol_is
      ∙ ap (λ (moment : ℕ). arrival bytes source Tcp moment) is.now_is)

  as_before : (zones after : Zones) → IsAsBefore (with_zones old zones) (with_zones old after)
  as_before zones after = record { stays = record { keys = refl; transfer_keys = refl; rules = refl; others = refl }; others = refl }

  -- a message that is served, or refused, of a stream
  served_of : (message : Incoming) (bytes : List ℕ) → IsOfStream source now message bytes → (zones after : Zones) (answer : Answer)
      → ServedWithKeys (over (keyed handler signature_for old) zones) (arrival bytes source Tcp now) answer after → Answers handler signature_for (with_zones old zones) message (Ok answer) after
  served_of message bytes is zones after answer s = subst (λ (came : Arrival). ServedWithKeys (over (keyed handler signature_for old) zones) came answer after) (came_so message bytes is) s

  left_of : (message : Incoming) (bytes : List ℕ) → IsOfStream source now message bytes → (zones after : Zones) (e : ServeError)
      → LeavesWithKeys (over (keyed handler signature_for old) zones) (arrival bytes source Tcp now) e after → Answers handler signature_for (with_zones old zones) message (Err e) after
  left_of message bytes is zones after e s = subst (λ (came : Arrival). LeavesWithKeys (over (keyed handler signature_for old) zones) came e after) (came_so message bytes is) s

  refused_of : (message : Incoming) (bytes : List ℕ) → IsOfStream source now message bytes → (zones after : Zones) (refusal : Refusal)
      → IsRefused (over (keyed handler signature_for old) zones) (arrival bytes source Tcp now) refusal after → (outcome : Result Answer ServeError) × Answers handler signature_for (with_zones old zones) message outcome after
  refused_of message bytes is zones after Denied s = (Ok answers.Denied, served_of message bytes is zones after answers.Denied s)
  refused_of message bytes is zones after Response s = (Ok answers.Response, served_of message bytes is zones after answers.Response s)
  refused_of message bytes is zones after Unreadable s = (Ok answers.Unreadable, served_of message bytes is zones after answers.Unreadable s)
  refused_of message bytes is zones after Memory s = (Err errors.Memory, left_of message bytes is zones after errors.Memory s)
  refused_of message bytes is zones after MemoryAfterHandling s = (Err errors.MemoryAfterHandling, left_of message bytes is zones after errors.MemoryAfterHandling s)

  -- the run after these messages
  abbrev Goes : List Event → List Incoming → Zones → Type 0
  Goes events messages zones = (after : List Event) × CameInTurn events messages after × Run handler signature_for after (with_zones old zones)

  one_more : (events : List Event) (messages : List Incoming) (message : Incoming) (outcome : Result Answer ServeError) (zones : Zones) → Goes (message_came message outcome ∷ events) messages zones → Goes events (message ∷ messages) zones
  one_more events messages message outcome zones (after, came, run) = (after, first_came came, run)

  abbrev these : List ℕ → StreamBytes
  these bytes = record { bytes = bytes; source = source; now = now }

  refused_last : (bytes : List ℕ) (between zones : Zones) (refusal : Refusal) → IsRefused (over (keyed handler signature_for old) between) (arrival bytes source Tcp now) refusal zones
      → (events : List Event) (messages : List Incoming) → Run handler signature_for events (with_zones old between) → AllZip (IsOfStream source now) messages (bytes ∷ []) → Goes events messages zones
  refused_last bytes between zones refusal is events [] run are = absurd are
  refused_last bytes between zones refusal is events (message ∷ []) run are =
      let refused_so = refused_of message bytes are.0 between zones refusal is in
      (message_came message refused_so.0 ∷ events, first_came none_came, goes_on run (refused_so.1, as_before between zones))
  refused_last bytes between zones refusal is events (message ∷ other ∷ others) run are = absurd are.1

  at_end : (bytes : List ℕ) (between zones : Zones) (refusal : Option Refusal) (refused waiting : List (List ℕ))
      → EndsStream (over (keyed handler signature_for old) between) (these bytes) refusal refused waiting zones → (events : List Event) (messages : List Incoming) → Run handler signature_for events (with_zones old between)
      → AllZip (IsOfStream source now) messages refused → Goes events messages zones
  at_end bytes between zones None refused waiting (nobody, same) events [] run are =
      (events, none_came, subst (λ (zs : Zones). Run handler signature_for events (with_zones old zs)) (sym same) run)
  at_end bytes between zones None refused waiting (nobody, same) events (message ∷ messages) run are =
      absurd (subst (λ (frames : List (List ℕ)). AllZip (IsOfStream source now) (message ∷ messages) frames) nobody are)
  at_end bytes between zones (Some refusal) refused waiting (message, one, nothing_waits, is) events messages run are =
      refused_last message between zones refusal is events messages run (subst (λ (frames : List (List ℕ)). AllZip (IsOfStream source now) messages frames) one are)

  exchanged : (bytes : List ℕ) (first between zones : Zones) (log middle : QueryLog) (frames replies refused waiting : List (List ℕ)) (refusal : Option Refusal)
      → Exchange (keyed handler signature_for old) source now first log frames replies between middle
      → EndsStream (over (keyed handler signature_for old) between) (these bytes) refusal refused waiting zones → (events : List Event) (messages : List Incoming) → Run handler signature_for events (with_zones old first)
      → AllZip (IsOfStream source now) messages (frames ++ refused) → Goes events messages zones
  exchanged bytes first between zones log middle frames replies refused waiting refusal none ends events messages run are =
      at_end bytes first zones refusal refused waiting ends events messages run are
  exchanged bytes first between zones log middle frames replies refused waiting refusal (next {between = then} {middle = last} {message = one} {messages = others} {sent = sent} {others = more} served logged rest is) ends events [] run are =
      absurd are
  exchanged bytes first between zones log middle frames replies refused waiting refusal (next {between = then} {middle = last} {message = one} {messages = others} {sent = sent} {others = more} served logged rest is) ends events (message ∷ messages) run are =
      one_more events messages message (Ok (answers.Replies sent)) zones
      (exchanged bytes then between zones last middle others more refused waiting refusal rest ends (message_came message (Ok (answers.Replies sent)) ∷ events) messages
      (goes_on run (served_of message one are.0 first then (answers.Replies sent) served, as_before first then)) are.1)

  pub stream_goes_on : (bytes : List ℕ) (answer : StreamAnswer) (out : List ℕ) (new : Service)
      → IsAnsweredStream (keyed handler signature_for old) old.answering.log (record { bytes = bytes; source = source; now = now }) answer out (standing_of new.answering)
      → ((zones : Zones) → zones ≡ zones_of new → AreKept (with_zones old zones) new) → StreamGoesOn handler signature_for source now (take answer.consumed bytes) old new
  stream_goes_on bytes answer out new answered kept = (
    answered.messages ++ answered.refused,
    answered.are_messages,
    λ events messages run are.
        let g = exchanged bytes (zones_of old) answered.between (zones_of new) old.answering.log new.answering.log answered.messages answered.replies
        answered.refused (waiting_in new.answering) answer.refusal answered.exchange answered.last events messages run are in
        (g.0, g.1, goes_on g.2 (kept (zones_of new) refl)),
  )
