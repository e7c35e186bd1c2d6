-- What the exports answer, in numbers.
use Rattle.std.specs.Prelude.{◌≡◌, ◌≢◌, ℕ, Bool, List, Option, false, length, true}
use Rattle.std.specs.Net.Addr.{ipv4_octets, ipv6_segments, segments_of}
use Rattle.std.specs.Net.Socket.{socket_ip, socket_port}
use Rattle.std.specs.declared.net.ip_addr.IpAddr.{IpAddr}
use Rattle.std.specs.declared.net.ip_addr.IpAddr.TheVariants.{V4, V6}
use Rattle.std.specs.declared.net.SocketAddr.{SocketAddr}
use Rattle.std.specs.declared.option.Option.TheVariants.{None, Some}
use Rattle.wire_messages.specs.declared.protocol.Protocol.{Protocol}
use Rattle.wire_messages.specs.declared.protocol.Protocol.TheVariants.{Tcp, Udp}
use Rattle.hickory_server.specs.server.ServedBy.{Arrival, arrival}
use Rattle.hickory_server.specs.declared.server.answer.Answer.TheVariants.{Replies}
use Rattle.server.specs.Calls.{GivenMessage, GivenStream, ToldOfMessage, ToldOfStream}
use Rattle.server.specs.Frames.{ArePut}
use Rattle.server.specs.Logged.{AreLogged}
use Rattle.signed_server.specs.KeyedServers.{KeyedServer}
use Rattle.signed_server.specs.ServedWithKeys.{ServedWithKeys}
use Rattle.server.specs.Serving.{IsRefused, IsStreamStep, waiting_in}
use Rattle.server.specs.declared.answering.Refusal.{Refusal}
use Rattle.server.specs.declared.answering.Refusal.TheVariants.{Denied, Memory, MemoryAfterHandling, Response, Unreadable}
use Rattle.server.specs.declared.answering.Answering.{Answering}

-- the number of a refusal
abbrev pub refusal_number : Refusal → ℕ
refusal_number Denied = 1
refusal_number Response = 2
refusal_number Unreadable = 3
refusal_number Memory = 4
refusal_number MemoryAfterHandling = 5

-- The bytes are an address: the four of IPv4, or the sixteen of IPv6, the first one highest.
abbrev pub IsAddress : List ℕ → IpAddr → Type 0
IsAddress bytes (V4 address) = ipv4_octets address ≡ bytes
IsAddress bytes (V6 address) = (length bytes ≡ 16) × (ipv6_segments address ≡ segments_of bytes)

-- It is the source of this address and port.
abbrev pub IsSource : List ℕ → ℕ → SocketAddr → Type 0
IsSource bytes port source = IsAddress bytes (socket_ip source) × (socket_port source ≡ port)

-- No address has so many bytes.
abbrev pub IsNoAddress : List ℕ → Type 0
IsNoAddress bytes = (length bytes ≢ 4) × (length bytes ≢ 16)

-- The number of a refusal, or none.
abbrev pub stream_number : Option Refusal → ℕ
stream_number None = 0
stream_number (Some refusal) = refusal_number refusal

-- the transport of a message
abbrev pub transport_of : Bool → Protocol
transport_of true = Tcp
transport_of false = Udp

-- such a message from this source, as it came
abbrev pub arrival_of : GivenMessage → SocketAddr → Arrival
arrival_of given source = arrival given.bytes source (transport_of given.stream) given.now

-- What is told of a message, and what the service is afterwards. The bytes for its replies were these before.
pub data AnswerTold {S H : Type 0} (keyed : KeyedServer H) (before : Answering S H) (given : GivenMessage) (old : List ℕ) (told : ToldOfMessage) (after : Answering S H) : Type 0 where
  -- Its source is no address.
  no_address : IsNoAddress given.address → told.number ≡ 6 → told.written ≡ 0 → told.out ≡ old → after ≡ before → AnswerTold keyed before given old told after
  -- It has no reply.
  refused : (source : SocketAddr) (refusal : Refusal) → IsSource given.address given.port source
      → IsRefused keyed (arrival_of given source) refusal after.server.server.catalog.zones
      → told.number ≡ refusal_number refusal → told.written ≡ 0 → told.out ≡ old → waiting_in after ≡ waiting_in before → after.log ≡ before.log
      → AnswerTold keyed before given old told after
  -- It has replies. As many as there is room for are written, each after its length, and the others wait; the log may
  -- have it.
  answered : (source : SocketAddr) (replies : List (List ℕ)) → IsSource given.address given.port source
      → ServedWithKeys keyed (arrival_of given source) (Replies replies) after.server.server.catalog.zones
      → ArePut replies old 0 told.out told.written (waiting_in after) → AreLogged before.log (arrival_of given source) replies after.log → told.number ≡ 0
      → AnswerTold keyed before given old told after

-- What is told of a stream's bytes, and what the service is afterwards. The bytes for the replies were these before.
pub data StreamTold {S H : Type 0} (keyed : KeyedServer H) (before : Answering S H) (given : GivenStream) (old : List ℕ) (told : ToldOfStream) (after : Answering S H) : Type 0 where
  -- Their source is no address.
  no_address : IsNoAddress given.address → told.number ≡ 6 → told.taken ≡ 0 → told.written ≡ 0 → told.out ≡ old → after ≡ before → StreamTold keyed before given old told after
  answered : (source : SocketAddr) (refusal : Option Refusal) → IsSource given.address given.port source
      → IsStreamStep keyed before (record { bytes = given.bytes; source = source; now = given.now })
      (record { consumed = told.taken; written = told.written; refusal = refusal }) told.out after → told.number ≡ stream_number refusal
      → StreamTold keyed before given old told after
