-- Streams of which one more message is answered.
use Rattle.std.proofs.Common.{◌≡◌, ◌≤◌, ◌+◌, ◌-◌, ◌∙◌, ℕ, List, [], ◌∷◌, ◌++◌, None, Some, arith, refl, sym, ap, subst, append_assoc, drop, length, length-append, length-drop, take}
use Rattle.std.proofs.Math.Seq.{take-add}
use Rattle.std.proofs.lemmas.List.{append-nil, take_all, take_at}
use Rattle.std.specs.declared.net.SocketAddr.{SocketAddr}
use Rattle.wire_messages.specs.declared.protocol.Protocol.TheVariants.{Tcp}
use Rattle.wire_names.specs.rr.domain.DomainName.{DomainName}
use Rattle.hickory_base.specs.declared.zone_store.handler.ZoneHandler.{Ghosts}
use Rattle.hickory_server.specs.server.ServedBy.{arrival}
use Rattle.hickory_server.specs.declared.server.answer.Answer.TheVariants.{Replies}
use Rattle.hickory_catalog.specs.replies.Signing.{Signer}
use Rattle.hickory_catalog.specs.declared.catalog.Catalog.{Catalog}
use Rattle.signed_server.specs.declared.service.SignedServer.{SignedServer}
use Rattle.server.specs.Frames.{ArePut, BeginsWith, IsFrame}
use Rattle.server.specs.Logged.{AreLogged}
use Rattle.signed_server.specs.KeyedServers.{KeyedServer, keyed_of, over}
use Rattle.signed_server.specs.ServedWithKeys.{ServedWithKeys}
use Rattle.server.specs.Serving.{Exchange, IsAnsweredStream, IsRefused, Stays, next, none}
use Rattle.server.specs.declared.answering.Refusal.{Refusal}
use Rattle.server_reports.specs.declared.log.QueryLog.{QueryLog}
use Rattle.server.proofs.Written.{frames_append, frames_more}

-- A message stands behind those that were taken.
pub front_more : (bytes : List ℕ) (consumed : ℕ) (message : List ℕ) → BeginsWith (drop consumed bytes) message
    → (frame : List ℕ) × IsFrame frame message × (take (consumed + (2 + length message)) bytes ≡ take consumed bytes ++ frame)
front_more bytes consumed message (frame, rest, is, front) =
    let size : length frame ≡ 2 + length message = omega (arith, ap length is.bytes_are) in
    (frame, is, take-add consumed (2 + length message) bytes ∙ ap (λ (ys : List ℕ). take consumed bytes ++ ys) (ap (take (2 + length message)) front ∙ take_at frame rest (2 + length message) size))

-- what is lent of bytes from a place on
pub rest_is : (bytes : List ℕ) (consumed : ℕ) → take (length bytes - consumed) (drop consumed bytes) ≡ drop consumed bytes
rest_is bytes consumed = take_all _ (drop consumed bytes) (omega (arith, length-drop {A = ℕ}))

-- It is there.
pub within_more : (bytes : List ℕ) (consumed : ℕ) (message : List ℕ) → consumed ≤ length bytes → BeginsWith (drop consumed bytes) message → consumed + (2 + length message) ≤ length bytes
within_more bytes consumed message inside (frame, rest, is, front) =
    omega (arith, ap length is.bytes_are, ap length front, length-append {A = ℕ}, length-drop {A = ℕ})

module _ {H : Type 0} (keyed : KeyedServer H) (source : SocketAddr) (now : ℕ) where
  -- One more message is answered.
  pub exchange_more : (zones between after : List (DomainName × List H)) (log middle last : QueryLog) (messages replies : List (List ℕ)) (message : List ℕ) (sent : List (List ℕ))
      → Exchange keyed source now zones log messages replies between middle
      → ServedWithKeys (over keyed between) (arrival message source Tcp now) (Replies sent) after → AreLogged middle (arrival message source Tcp now) sent last
      → Exchange keyed source now zones log (messages ++ message ∷ []) (replies ++ sent) after last
  exchange_more zones between after log middle last _ _ message sent none served logged = next served logged none (sym (append-nil sent))
  exchange_more zones between after log middle last _ replies message sent (next {between = first} {middle = then} {messages = ms} {sent = s} {others = o} before told rest is) served logged =
      next before told (exchange_more first between after then middle last ms o message sent rest served logged) (ap (λ (xs : List (List ℕ)). xs ++ sent) is ∙ append_assoc s o sent)

  module _ (bytes : List ℕ) (consumed written : ℕ) (out : List ℕ) (zones after : List (DomainName × List H)) (first_log log : QueryLog) where
    pub answered_more : (last_log : QueryLog) (message : List ℕ) (sent : List (List ℕ)) (new : List ℕ) (end : ℕ) (waiting : List (List ℕ))
        → IsAnsweredStream keyed first_log (record { bytes = bytes; source = source; now = now }) (record { consumed = consumed; written = written; refusal = None }) out
        (record { waiting = []; zones = zones; log = log })
        → BeginsWith (drop consumed bytes) message → ServedWithKeys (over keyed zones) (arrival message source Tcp now) (Replies sent) after
        → AreLogged log (arrival message source Tcp now) sent last_log → ArePut sent out written new end waiting
        → IsAnsweredStream keyed first_log (record { bytes = bytes; source = source; now = now }) (record { consumed = consumed + (2 + length message); written = end; refusal = None }) new
        (record { waiting = waiting; zones = after; log = last_log })
    answered_more last_log message sent new end waiting so_far begins served logged put =
        let (frame, is, front) = front_more bytes consumed message begins in
        let (nobody, same) = so_far.last in
        let all : so_far.messages ++ so_far.refused ≡ so_far.messages = ap (λ (xs : List (List ℕ)). so_far.messages ++ xs) nobody ∙ append-nil so_far.messages in
        record {
          messages = so_far.messages ++ message ∷ [];
          refused = [];
          are_messages = rw (append-nil (so_far.messages ++ message ∷ []), front) (frames_more _ so_far.messages frame message (rw all at so_far.are_messages) is);
          replies = so_far.replies ++ sent;
          between = after;
          exchange = exchange_more keyed.server.zones so_far.between after first_log log last_log so_far.messages so_far.replies message sent so_far.exchange
              (subst (λ (z : List (DomainName × List H)). ServedWithKeys (over keyed z) (arrival message source Tcp now) (Replies sent) after) same served) logged;
          last = (refl, refl);
          written = so_far.written ++ put.written;
          are_written = rw put.front (frames_append _ _ so_far.written put.written so_far.are_written put.are_frames);
          all = ap (λ (xs : List (List ℕ)). xs ++ sent) (so_far.all ∙ append-nil so_far.written) ∙ ap (λ (xs : List (List ℕ)). so_far.written ++ xs) put.all
              ∙ sym (append_assoc so_far.written put.written waiting);
        }

    pub refused_last : (message : List ℕ) (refusal : Refusal)
        → IsAnsweredStream keyed first_log (record { bytes = bytes; source = source; now = now }) (record { consumed = consumed; written = written; refusal = None }) out
        (record { waiting = []; zones = zones; log = log })
        → BeginsWith (drop consumed bytes) message → IsRefused (over keyed zones) (arrival message source Tcp now) refusal after
        → IsAnsweredStream keyed first_log (record { bytes = bytes; source = source; now = now }) (record { consumed = consumed + (2 + length message); written = written; refusal = Some refusal }) out
        (record { waiting = []; zones = after; log = log })
    refused_last message refusal so_far begins refused =
        let (frame, is, front) = front_more bytes consumed message begins in
        let (nobody, same) = so_far.last in
        let all : so_far.messages ++ so_far.refused ≡ so_far.messages = ap (λ (xs : List (List ℕ)). so_far.messages ++ xs) nobody ∙ append-nil so_far.messages in
        record {
          messages = so_far.messages;
          refused = message ∷ [];
          are_messages = rw front (frames_more _ so_far.messages frame message (rw all at so_far.are_messages) is);
          replies = so_far.replies;
          between = zones;
          exchange = rw same so_far.exchange;
          last = (message, refl, refl, refused);
          written = so_far.written;
          are_written = so_far.are_written;
          all = so_far.all;
        }

module _ {S H : Type 0} (first middle last : SignedServer S H) where
  pub stays_on : Stays first middle → Stays middle last → Stays first last
  stays_on so_far step = record {
    keys = step.keys ∙ so_far.keys;
    transfer_keys = step.transfer_keys ∙ so_far.transfer_keys;
    rules = step.rules ∙ so_far.rules;
    others = step.others ∙ ap (λ (m : Catalog S H). record m { zones = last.server.catalog.zones }) so_far.others;
  }

pub stays_so : {S H : Type 0} (server : SignedServer S H) → Stays server server
stays_so server = record { keys = refl; transfer_keys = refl; rules = refl; others = refl }

module _ {S H : Type 0} (handler : Ghosts H) (signature_for : S → Signer) (first middle : SignedServer S H) (stays : Stays first middle) where
  -- A server of which this stayed is the same over its own zones.
  pub same_keyed : keyed_of handler signature_for middle ≡ over (keyed_of handler signature_for first) middle.server.catalog.zones
  same_keyed = rw (stays.keys, stays.transfer_keys, stays.rules, stays.others) refl

  -- what becomes of a message in the middle becomes of it at the first with the zones of the middle
  pub at_zones : (P : KeyedServer H → Type 0) → P (keyed_of handler signature_for middle) → P (over (keyed_of handler signature_for first) middle.server.catalog.zones)
  at_zones P holds = subst P same_keyed holds
