-- What becomes of messages, in numbers and over streams.
use Rattle.std.specs.Prelude.{◌≡◌, ◌<◌, ◌⊎◌, ◌+◌, ◌++◌, ◌∷◌, [], ℕ, IsNone, List, Option, drop, length, take}
use Rattle.std.specs.declared.net.SocketAddr.{SocketAddr}
use Rattle.std.specs.declared.option.Option.TheVariants.{None, Some}
use Rattle.wire_messages.specs.declared.protocol.Protocol.TheVariants.{Tcp}
use Rattle.wire_names.specs.rr.domain.DomainName.{DomainName}
use Rattle.hickory_server.specs.declared.server.answer.Answer.TheVariants as answers
use Rattle.hickory_server.specs.declared.server.serve.ServeError.TheVariants as errors
use Rattle.hickory_server.specs.server.ServedBy.{Arrival, arrival}
use Rattle.signed_server.specs.KeyedServers.{KeyedServer, over}
use Rattle.signed_server.specs.ServedWithKeys.{LeavesWithKeys, ServedWithKeys}
use Rattle.signed_server.specs.declared.service.SignedServer.{SignedServer}
use Rattle.server.specs.Frames.{AreFrames, IsCutShort}
use Rattle.server.specs.Logged.{AreLogged}
use Rattle.server.specs.declared.answering.Refusal.{Refusal}
use Rattle.server.specs.declared.answering.Refusal.TheVariants.{Denied, Memory, MemoryAfterHandling, Response, Unreadable}
use Rattle.server.specs.declared.answering.Answering.{Answering}
use Rattle.server.specs.declared.answering.StreamAnswer.{StreamAnswer}
use Rattle.server_reports.specs.declared.log.QueryLog.{QueryLog}

-- Nothing of a server changes from message to message but its zones.
pub record Stays {S H : Type 0} (first last : SignedServer S H) : Type 0 where
  pub keys : last.keys ≡ first.keys
  pub transfer_keys : last.transfer_keys ≡ first.transfer_keys
  pub rules : last.server.rules ≡ first.server.rules
  pub others : last.server.catalog ≡ record first.server.catalog { zones = last.server.catalog.zones }

-- the replies that wait
abbrev pub waiting_in : {S H : Type 0} → Answering S H → List (List ℕ)
waiting_in answering = drop answering.taken answering.pending

-- A message gets no reply for this reason, and these are the zones after it.
abbrev pub IsRefused : {H : Type 0} → KeyedServer H → Arrival → Refusal → List (DomainName × List H) → Type 0
IsRefused keyed came Denied zones = ServedWithKeys keyed came answers.Denied zones
IsRefused keyed came Response zones = ServedWithKeys keyed came answers.Response zones
IsRefused keyed came Unreadable zones = ServedWithKeys keyed came answers.Unreadable zones
IsRefused keyed came Memory zones = LeavesWithKeys keyed came errors.Memory zones
IsRefused keyed came MemoryAfterHandling zones = LeavesWithKeys keyed came errors.MemoryAfterHandling zones

-- The replies to messages that come one after the other over a stream from there at this moment, and the zones and the
-- log after them.
pub data Exchange {H : Type 0} (keyed : KeyedServer H) (source : SocketAddr) (now : ℕ) : List (DomainName × List H) → QueryLog → List (List ℕ) → List (List ℕ) → List (DomainName × List H) → QueryLog → Type 0 where
  none : {zones : List (DomainName × List H)} {log : QueryLog} → Exchange keyed source now zones log [] [] zones log
  next : {zones between after : List (DomainName × List H)} {log middle last : QueryLog} {message : List ℕ} {messages sent others replies : List (List ℕ)}
      → ServedWithKeys (over keyed zones) (arrival message source Tcp now) (answers.Replies sent) between
      → AreLogged log (arrival message source Tcp now) sent middle
      → Exchange keyed source now between middle messages others after last
      → replies ≡ sent ++ others
      → Exchange keyed source now zones log (message ∷ messages) replies after last

-- bytes of a stream: from where and when they came, in seconds since 1970
pub record StreamBytes : Type 0 where
  pub bytes : List ℕ
  pub source : SocketAddr
  pub now : ℕ

-- how a server is after messages: the replies that wait, its zones and its log
pub record Standing (H : Type 0) : Type 0 where
  pub waiting : List (List ℕ)
  pub zones : List (DomainName × List H)
  pub log : QueryLog

abbrev pub standing_of : {S H : Type 0} → Answering S H → Standing H
standing_of answering = record { waiting = waiting_in answering; zones = answering.server.server.catalog.zones; log = answering.log }

-- A message that is refused ends a stream.
abbrev pub EndsStream : {H : Type 0} → KeyedServer H → StreamBytes → Option Refusal → List (List ℕ) → List (List ℕ) → List (DomainName × List H) → Type 0
EndsStream keyed came None refused waiting zones = (refused ≡ []) × (zones ≡ keyed.server.zones)
EndsStream keyed came (Some refusal) refused waiting zones = (message : List ℕ) × (refused ≡ message ∷ []) × (waiting ≡ [])
    × IsRefused keyed (arrival message came.source Tcp came.now) refusal zones

-- Messages that are whole at the front of a stream's bytes are answered, each after its length, up to one that is
-- refused, which is not logged.
pub record IsAnsweredStream {H : Type 0} (keyed : KeyedServer H) (log : QueryLog) (came : StreamBytes) (answer : StreamAnswer) (out : List ℕ) (left : Standing H) : Type 0 where
  pub messages : List (List ℕ)
  pub refused : List (List ℕ)
  pub are_messages : AreFrames (take answer.consumed came.bytes) (messages ++ refused)
  pub replies : List (List ℕ)
  pub between : List (DomainName × List H)
  pub exchange : Exchange keyed came.source came.now keyed.server.zones log messages replies between left.log
  pub last : EndsStream (over keyed between) came answer.refusal refused left.waiting left.zones
  pub written : List (List ℕ)
  pub are_written : AreFrames (take answer.written out) written
  pub all : replies ≡ written ++ left.waiting

-- Nothing more is to be answered: a message is missing, or the room for a reply of any size.
abbrev pub IsAtEnd : List ℕ → ℕ → ℕ → ℕ → Type 0
IsAtEnd bytes consumed room written = IsCutShort (drop consumed bytes) ⊎ (room < written + 65537)

-- What becomes of a stream's bytes: messages at the front are answered, up to one that is refused, and else as far as
-- whole ones and the room go and no reply waits.
pub record IsStreamStep {S H : Type 0} (keyed : KeyedServer H) (before : Answering S H) (came : StreamBytes) (answer : StreamAnswer) (new : List ℕ) (after : Answering S H) : Type 0 where
  pub answered : IsAnsweredStream keyed before.log came answer new (standing_of after)
  pub at_end : IsNone answer.refusal → waiting_in after ≡ [] → IsAtEnd came.bytes answer.consumed (length new) answer.written
