-- What becomes of the messages of an input, one after the other, and what is written of it.
use Rattle.std.specs.Prelude.{◌≡◌, ◌<◌, ◌++◌, ◌∷◌, [], ℕ, Bool, true, false, List, Option, Some, None, codes, length}
use Rattle.std.specs.List.{concat}
use Rattle.std.specs.Io.BufRead.{drop_through, take_through}
use Rattle.std.specs.Net.Socket.{socket_ip}
use Rattle.std.specs.declared.net.ip_addr.IpAddr.{IpAddr}
use Rattle.wire_messages.specs.declared.protocol.Protocol.{Protocol}
use Rattle.wire_messages.specs.declared.protocol.Protocol.TheVariants.{Tcp, Udp}
use Rattle.wire_names.specs.rr.domain.DomainName.{DomainName}
use Rattle.hickory_server.specs.declared.server.serve.Incoming.{Incoming}
use Rattle.server.specs.Frames.{AreFrames, IsFrame}
use Rattle.zone_serve.specs.Lines.{IsLineOf, answer_lines}
use Rattle.hickory_server.specs.declared.server.answer.Answer.{Answer}
use Rattle.hickory_server.specs.declared.server.answer.Answer.TheVariants.{Replies}
use Rattle.zone_serve.specs.declared.lines.LineMessage.{LineMessage}
use Rattle.hickory_server.specs.server.ServedBy.{arrival}
use Rattle.signed_server.specs.KeyedServers.{KeyedServer, over}
use Rattle.signed_server.specs.ServedWithKeys.{ServedWithKeys}

-- what becomes of a message, and the zones after it
abbrev pub BecomesOf : {H : Type 0} → KeyedServer H → Incoming → Answer → List (DomainName × List H) → Type 0
BecomesOf service message answer zones =
    ServedWithKeys service (arrival message.bytes.items message.src message.protocol message.now) answer zones

-- The message came over this transport, from this address, with these bytes, at some moment.
pub record IsFrom (protocol : Protocol) (address : IpAddr) (bytes : List ℕ) (message : Incoming) : Type 0 where
  pub protocol_is : message.protocol ≡ protocol
  pub address_is : socket_ip message.src ≡ address
  pub bytes_are : message.bytes.items ≡ bytes

-- What becomes of the bytes of one datagram: what is written is its replies.
pub record DatagramServed {H : Type 0} (service : KeyedServer H) (address : IpAddr) (datagram written : List ℕ) (zones : List (DomainName × List H)) : Type 0 where
  pub message : Incoming
  pub came : IsFrom Udp address datagram message
  pub replies : List (List ℕ)
  pub answered : BecomesOf service message (Replies replies) zones
  pub written_is : written ≡ concat replies

-- What becomes of the messages of a stream: each is read after its length, after those before it, and answered over
-- the zones as they left them; its replies are written after their lengths, after theirs.
pub data StreamServed {H : Type 0} (service : KeyedServer H) (address : IpAddr) : List ℕ → List ℕ → List (DomainName × List H) → Type 0 where
  none : StreamServed service address [] [] service.server.zones
  more : (read written frame frames : List ℕ) {bytes : List ℕ} {replies : List (List ℕ)} {message : Incoming} {between zones : List (DomainName × List H)}
      → StreamServed service address read written between
      → IsFrame frame bytes → IsFrom Tcp address bytes message
      → BecomesOf (over service between) message (Replies replies) zones
      → AreFrames frames replies
      → StreamServed service address (read ++ frame) (written ++ frames) zones

-- What becomes of what comes next on a stream: a message, or nothing, at its end.
abbrev pub NextServed : {H : Type 0} → KeyedServer H → IpAddr → List ℕ → List ℕ → List (DomainName × List H) → Bool → Type 0
NextServed service address read written zones true = (bytes : List ℕ) × IsFrame read bytes × (message : Incoming) × IsFrom Tcp address bytes message
    × (replies : List (List ℕ)) × BecomesOf service message (Replies replies) zones × AreFrames written replies
NextServed service address read written zones false = (read ≡ []) × (written ≡ []) × (zones ≡ service.server.zones)

-- What becomes of a line: what becomes of the message that it has is written as lines, or `bad line`, if it has
-- none.
abbrev pub LineServed : {H : Type 0} → KeyedServer H → List ℕ → List ℕ → List (DomainName × List H) → Bool → Type 0
LineServed service line written zones true = (told : LineMessage) × IsLineOf line told × (message : Incoming) × IsFrom told.protocol told.address told.bytes.items message
    × (answer : Answer) × BecomesOf service message answer zones × (written ≡ answer_lines answer)
LineServed service line written zones false = (written ≡ codes "bad line\n") × (zones ≡ service.server.zones)

-- The lines of an input, each with its newline, LF, which the last may lack, and what comes after them.
abbrev pub AreLines : List ℕ → List (List ℕ) → List ℕ → Type 0
AreLines input [] rest = rest ≡ input
AreLines input (line ∷ lines) rest = (0 < length input) × (line ≡ take_through 10 input) × AreLines (drop_through 10 input) lines rest

-- What a reader gives next: a line, or nothing, at its end.
abbrev pub NextLine : List ℕ → Option (List ℕ) → Option (List ℕ) → Type 0
NextLine input None left = input ≡ []
NextLine input (Some line) left = (0 < length input) × (line ≡ take_through 10 input) × (left ≡ Some (drop_through 10 input))
