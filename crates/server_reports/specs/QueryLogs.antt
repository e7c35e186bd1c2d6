-- A log of queries: lines that tell them wait to be taken.
use Rattle.std.specs.Prelude.{◌≡◌, ◌++◌, ◌-◌, ◌==◌, ◌&&◌, ℕ, Bool, List, cond, false, length, nat_le, nat_lt, take, true}
use Rattle.std.specs.declared.net.ip_addr.IpAddr.{IpAddr}
use Rattle.server_reports.specs.QueryLines.{query_line}
use Rattle.server_reports.specs.declared.log.QueryLog.{QueryLog}

-- one in so many queries is to have a line, and few enough bytes wait
abbrev pub is_on : QueryLog → Bool
is_on log = nat_lt 0 log.every && nat_le (length log.lines.items) 262144

-- the next query is to have a line
abbrev pub is_due : QueryLog → Bool
is_due log = is_on log && log.left == 0

-- the log once a query is counted: of so many queries the first has a line, and the others are left out
abbrev pub counted : QueryLog → QueryLog
counted log = cond (is_on log) (record log { left = cond (log.left == 0) (log.every - 1) (log.left - 1) }) log

-- the line of a query that came at this moment from this address, over a stream or as a datagram, and has this reply:
-- of a message that is no query, and may have a name without an end, its first 271 bytes alone, in which each first
-- question has room: a header of 12, a name of 255 (RFC 1035 sections 4.1.1 and 3.1), a type and a class
abbrev pub told_line : ℕ → IpAddr → Bool → List ℕ → List ℕ → List ℕ
told_line now address stream query reply = query_line now address stream (take 271 query) reply (length reply)

-- What becomes of a log at a query of which this is the line.
pub data IsLogged (old : QueryLog) (line : List ℕ) (new : QueryLog) : Type 0 where
  left_out : is_due old ≡ false → new ≡ counted old → IsLogged old line new
  -- Its line stands behind those that wait.
  told : is_due old ≡ true → new ≡ record (counted old) { lines = new.lines } → new.lines.items ≡ old.lines.items ++ line → IsLogged old line new
  -- Memory was refused for its line.
  lost : is_due old ≡ true → new ≡ record (counted old) { lines = new.lines } → new.lines.items ≡ old.lines.items → IsLogged old line new
