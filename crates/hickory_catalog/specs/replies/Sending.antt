-- How replies reach a sink, and what the caller is told.
use Rattle.std.specs.Prelude.{◌≡◌, ◌+◌, ◌%◌, ◌^◌, ◌⊎◌, ◌++◌, ◌∷◌, [], List}
use Rattle.std.specs.List.{AllZip}
use Rattle.wire_messages.specs.Numbers.{code_serv_fail}
use Rattle.wire_messages.specs.op.Metadata.{bare_metadata}
use Rattle.wire_messages.specs.serialize.writing.Reply.{Reply}
use Rattle.wire_messages.specs.declared.op.header.Header.{Header}
use Rattle.wire_messages.specs.declared.op.header.MessageType.TheVariants.{Response}
use Rattle.wire_messages.specs.declared.op.header.Metadata.{Metadata}
use Rattle.hickory_base.specs.declared.responses.response_handler.ResponseHandler.{Ghosts}
use Rattle.hickory_base.specs.responses.Sinks.{AddsEntry}

-- What is told where the sink failed: the request's id and opcode, ServFail, no flag but QR and nothing in any section
-- (RFC 1035 section 4.1.1).
abbrev pub failure_header : Metadata → Header
failure_header request = record {
  metadata = record (bare_metadata request.id Response request.op_code) { response_code = code_serv_fail };
  counts = record { queries = 0; answers = 0; authorities = 0; additionals = 0 };
}

-- The sink took the reply and counted no failure. It has one more entry, of this reply, and what is told is what it
-- tells of that very entry.
pub record IsTaken {S Entry Settings : Type 0} (sink : Ghosts S Entry Settings) (old new : S) (reply : Reply) (told : Header) : Type 0 where
  pub uncounted : sink.failures new ≡ sink.failures old
  pub added : AddsEntry (λ entry. sink.shows (sink.settings old) reply entry × sink.informs (sink.settings old) reply entry told) (sink.entries old) (sink.entries new)

-- The sink counted one failure, and has the reply or not; no other reply follows. What is told is ServFail.
pub record IsFailed {S Entry Settings : Type 0} (sink : Ghosts S Entry Settings) (request : Metadata) (old new : S) (reply : Reply) (told : Header) : Type 0 where
  pub counted : sink.failures new ≡ (sink.failures old + 1) % 2 ^ 64
  pub added : AddsEntry (sink.shows (sink.settings old) reply) (sink.entries old) (sink.entries new) ⊎ (sink.entries new ≡ sink.entries old)
  pub informed : told ≡ failure_header request

-- The sink is as before: nothing was handed over.
abbrev pub IsUntouched : {S Entry Settings : Type 0} → Ghosts S Entry Settings → S → S → Type 0
IsUntouched sink old new = (sink.settings new ≡ sink.settings old) × (sink.entries new ≡ sink.entries old) × (sink.failures new ≡ sink.failures old)

-- The reply to a request of this metadata was handed over, once, and this is told of it. The sink's settings, of which
-- it depends what it shows and tells, are as before.
abbrev pub Sends : {S Entry Settings : Type 0} → Ghosts S Entry Settings → Metadata → S → S → Reply → Header → Type 0
Sends sink request old new reply told = (sink.settings new ≡ sink.settings old) × (IsTaken sink old new reply told ⊎ IsFailed sink request old new reply told)

-- The reply was handed over, once, and the sink took it, or it failed: the two ways of `Sends`.
abbrev pub Takes : {S Entry Settings : Type 0} → Ghosts S Entry Settings → S → S → Reply → Header → Type 0
Takes sink old new reply told = (sink.settings new ≡ sink.settings old) × IsTaken sink old new reply told

abbrev pub Fails : {S Entry Settings : Type 0} → Ghosts S Entry Settings → Metadata → S → S → Reply → Header → Type 0
Fails sink request old new reply told = (sink.settings new ≡ sink.settings old) × IsFailed sink request old new reply told

-- The sink took these replies, one entry for each, in their order, and counted no failure.
pub record AreTaken {S Entry Settings : Type 0} (sink : Ghosts S Entry Settings) (old new : S) (replies : List Reply) : Type 0 where
  pub settled : sink.settings new ≡ sink.settings old
  pub uncounted : sink.failures new ≡ sink.failures old
  pub added : List Entry
  pub shown : AllZip (sink.shows (sink.settings old)) replies added
  pub grew : sink.entries new ≡ sink.entries old ++ added

-- The replies to a request were handed over in their order, each once, up to the first at which the sink failed. What
-- is told is of the last that was handed over.
pub data SendsInOrder {S Entry Settings : Type 0} (sink : Ghosts S Entry Settings) (request : Metadata) (old new : S) (replies : List Reply) (told : Header) : Type 0 where
  -- All were handed over. At the last the sink may have failed.
  whole : {earlier : List Reply} {reply : Reply} {between : S} → replies ≡ earlier ++ reply ∷ []
      → AreTaken sink old between earlier → Sends sink request between new reply told → SendsInOrder sink request old new replies told
  -- The sink failed, and what stands behind that reply was not handed over.
  ended : {earlier : List Reply} {reply : Reply} {between : S} (later : List Reply) → replies ≡ earlier ++ reply ∷ later
      → AreTaken sink old between earlier → Fails sink request between new reply told → SendsInOrder sink request old new replies told
