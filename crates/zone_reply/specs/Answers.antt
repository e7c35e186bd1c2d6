-- What the command prints for its input, and the status that it gives.
use Rattle.std.specs.Prelude.{◌≡◌, ◌⊎◌, ◌∷◌, [], ℕ, List, Option, Some, None, IfSome, IsSome, Result, Ok, Err, Contains}
use Rattle.std.specs.Global.{Vec}
use Rattle.std.specs.Io.BufRead.{first_line}
use Rattle.std.specs.declared.net.SocketAddr.{SocketAddr}
use Rattle.std.specs.declared.net.SocketAddr.TheVariants.{V4}
use Rattle.hex.specs.Hex.{decode_of}
use Rattle.wire_names.specs.HexLines.{hex_lines}
use Rattle.wire_names.specs.rr.domain.DomainName.{DomainName}
use Rattle.wire_names.specs.declared.error.ProtoError.{ProtoError}
use Rattle.wire_messages.specs.declared.protocol.Protocol.{Protocol}
use Rattle.hickory_base.specs.requests.RequestReading.{IsFaultOf}
use Rattle.server_limits.specs.Access.{AccessSets, Network}
use Rattle.hickory_catalog.specs.requests.Server.{Server}
use Rattle.hickory_server.specs.server.Serving.{LeavesUnserved, Step}
use Rattle.hickory_server.specs.declared.server.serve.Incoming.{Incoming}
use Rattle.hickory_server.specs.declared.server.serve.Outcome.{Outcome}
use Rattle.hickory_server.specs.declared.server.serve.Outcome.TheVariants.{Replies}
use Rattle.hickory_server.specs.declared.server.serve.ServeError.{ServeError}
use Rattle.hickory_server.specs.declared.server.serve.ServeError.TheVariants as serve_error
use Rattle.zone_reply.specs.Command.{command_of, help_lines, refusal_line, refusal_status, version_line}
use Rattle.zone_reply.specs.declared.command.Command.TheVariants.{Answer, Help, Version}
use Rattle.zone_reply.specs.declared.command.Refusal.{Refusal}
use Rattle.zone_reply.specs.declared.command.Refusal.TheVariants.{Usage, NotHex, Unreadable, Memory}

-- the source of each request: 127.0.0.1, port 53
abbrev pub local_source : SocketAddr
local_source = V4 (record { ip = record { octets = 127 ∷ 0 ∷ 0 ∷ 1 ∷ [] }; port = 53 })

-- No network is denied, and none is allowed: each address may use the server.
pub record IsOpen (access : AccessSets) : Type 0 where
  pub deny : (network : Network) → ¬ (Contains access.deny network)
  pub allow : (network : Network) → ¬ (Contains access.allow network)

-- The message of these bytes as it came: from that source, over this transport, at the moment 0.
pub record IsIncoming (protocol : Protocol) (bytes : List ℕ) (message : Incoming) : Type 0 where
  pub bytes_are : message.bytes.items ≡ bytes
  pub source_is : message.src ≡ local_source
  pub protocol_is : message.protocol ≡ protocol
  pub now_is : message.now ≡ 0

-- What becomes of the message of these bytes, which comes alone, and the zones after it, where each address may use the
-- server.
pub record Becomes {H : Type 0} (server : Server H) (protocol : Protocol) (bytes : List ℕ) (outcome : Outcome) (zones : List (DomainName × List H)) : Type 0 where
  pub message : Incoming
  pub is_incoming : IsIncoming protocol bytes message
  pub access : AccessSets
  pub is_open : IsOpen access
  pub step : Step access server message outcome zones

-- Memory was refused for the message of these bytes, and these are the zones after it.
pub record Fails {H : Type 0} (server : Server H) (protocol : Protocol) (bytes : List ℕ) (zones : List (DomainName × List H)) : Type 0 where
  pub message : Incoming
  pub is_incoming : IsIncoming protocol bytes message
  pub access : AccessSets
  pub is_open : IsOpen access
  pub e : ServeError
  pub left : LeavesUnserved access server message e zones ⊎ ((e ≡ serve_error.Memory) × (zones ≡ server.zones))

-- The zones after a message: as before, or as it left them, with its outcome or without memory for it. Only an update
-- changes any.
abbrev pub MessageLeft : {H : Type 0} → Server H → Protocol → List ℕ → List (DomainName × List H) → Type 0
MessageLeft server protocol bytes zones = (zones ≡ server.zones) ⊎ (((outcome : Outcome) × Becomes server protocol bytes outcome zones) ⊎ Fails server protocol bytes zones)

-- Why there is no reply to a message: it cannot be read, or memory is refused.
abbrev pub IsRefusedMessage : List ℕ → Refusal → Type 0
IsRefusedMessage message Unreadable = (e : ProtoError) × IsFaultOf message e
IsRefusedMessage message Memory = Unit {0}
IsRefusedMessage message Usage = ⊥
IsRefusedMessage message NotHex = ⊥

-- The message is what the first line of the input, which ends in LF or CR LF, spells in hex digits, where the input is
-- known.
abbrev pub IsFirstMessage : Option (List ℕ) → List ℕ → Type 0
IsFirstMessage input message = IfSome input (λ bytes. decode_of (first_line bytes) ≡ Ok message)

-- The zones after an input: as before, or those after the message that it begins with.
abbrev pub InputLeft : {H : Type 0} → Server H → List (List ℕ) → Option (List ℕ) → List (DomainName × List H) → Type 0
InputLeft server arguments input zones = (zones ≡ server.zones)
    ⊎ ((protocol : Protocol) × (command_of arguments ≡ Some (Answer protocol)) × (message : List ℕ) × IsFirstMessage input message × MessageLeft server protocol message zones)

-- Why there is no message: the input cannot be read or spells none, or memory is refused.
abbrev pub IsRefusedInput : Refusal → Type 0
IsRefusedInput NotHex = Unit {0}
IsRefusedInput Memory = Unit {0}
IsRefusedInput Usage = ⊥
IsRefusedInput Unreadable = ⊥

-- The lines are those of the replies that become of the message of the input, over the transport that the arguments
-- name.
pub record AreReplyLines {H : Type 0} (server : Server H) (arguments : List (List ℕ)) (input : Option (List ℕ)) (lines : List ℕ) (zones : List (DomainName × List H)) : Type 0 where
  pub protocol : Protocol
  pub is_named : command_of arguments ≡ Some (Answer protocol)
  pub message : List ℕ
  pub is_first : IsFirstMessage input message
  pub encoded : List (List ℕ)
  pub becomes : Becomes server protocol message (Replies encoded) zones
  pub lines_are : lines ≡ hex_lines encoded

-- The lines are the program's name and version, or how it is started, as the arguments ask.
abbrev pub AreOwnLines : List (List ℕ) → List ℕ → Type 0
AreOwnLines arguments lines = ((command_of arguments ≡ Some Version) × (lines ≡ version_line)) ⊎ ((command_of arguments ≡ Some Help) × (lines ≡ help_lines))

-- What is answered: the lines of the replies, or what the program tells of itself, or why there are none. A reader may
-- fail at any time once the arguments name a transport, and memory may be refused at any time once they name a command.
-- The zones are those after it.
abbrev pub IsAnswer : {H : Type 0} → Server H → List (List ℕ) → Option (List ℕ) → Result (List ℕ) Refusal → List (DomainName × List H) → Type 0
IsAnswer server arguments input (Ok lines) zones = AreReplyLines server arguments input lines zones ⊎ AreOwnLines arguments lines
IsAnswer server arguments input (Err Usage) zones = command_of arguments ≡ None
IsAnswer server arguments input (Err NotHex) zones = (protocol : Protocol) × (command_of arguments ≡ Some (Answer protocol))
IsAnswer server arguments input (Err Unreadable) zones = (protocol : Protocol) × (command_of arguments ≡ Some (Answer protocol)) × (message : List ℕ) × IsFirstMessage input message × (e : ProtoError) × IsFaultOf message e
IsAnswer server arguments input (Err Memory) zones = IsSome (command_of arguments)

-- an answer with the bytes of its lines
abbrev pub line_items : Result (Vec ℕ) Refusal → Result (List ℕ) Refusal
line_items (Ok lines) = Ok lines.items
line_items (Err refusal) = Err refusal

-- the lines that tell an answer, each with its newline
abbrev pub answer_line : Result (List ℕ) Refusal → List ℕ
answer_line (Ok lines) = lines
answer_line (Err refusal) = refusal_line refusal

-- the status that tells an answer
abbrev pub answer_status : Result (List ℕ) Refusal → ℕ
answer_status (Ok line) = 0
answer_status (Err refusal) = refusal_status refusal
