-- What becomes of the log of queries at a message.
use Rattle.std.specs.Prelude.{◌≡◌, [], ℕ, Bool, List, Some, false, true}
use Rattle.std.specs.List.{slice_get}
use Rattle.std.specs.Net.Socket.{socket_ip}
use Rattle.wire_messages.specs.declared.protocol.Protocol.{Protocol}
use Rattle.wire_messages.specs.declared.protocol.Protocol.TheVariants.{Udp}
use Rattle.hickory_server.specs.server.ServedBy.{Arrival}
use Rattle.server_reports.specs.QueryLogs.{IsLogged, told_line}
use Rattle.server_reports.specs.declared.log.QueryLog.{QueryLog}

abbrev pub is_stream : Protocol → Bool
is_stream Udp = false
is_stream other = true

-- What becomes of a log at a message that came so, and has these replies: it is logged with the first of them.
pub data AreLogged (old : QueryLog) (came : Arrival) (replies : List (List ℕ)) (new : QueryLog) : Type 0 where
  no_reply : replies ≡ [] → new ≡ old → AreLogged old came replies new
  with_first : (reply : List ℕ) → slice_get replies 0 ≡ Some reply
      → IsLogged old (told_line came.now (socket_ip came.source) (is_stream came.protocol) came.bytes reply) new → AreLogged old came replies new
