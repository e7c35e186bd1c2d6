use Rattle.std.proofs.Common.{◌≡◌, ◌∷◌, [], ℕ, List, false, refl, rules}
use Rattle.hickory_server.specs.server.ServedBy.{Arrival}
use Rattle.server_reports.specs.QueryLogs.{is_on, left_out}
use Rattle.server_reports.specs.declared.log.QueryLog.{QueryLog}
use Rattle.server.specs.Logged.{AreLogged, no_reply, with_first}
use Rattle.server.proofs.Written.{begins_at}
use Rattle.server.proofs.logging.log_replies.Goals as goal

-- A log that is off stays as it is.
off : (log : QueryLog) (came : Arrival) (replies : List (List ℕ)) → is_on log ≡ false → AreLogged log came replies log
off log came [] is = no_reply refl refl
off log came (reply ∷ others) is = with_first reply refl (left_out (rw is refl) (rw is refl))

pub returns-then-not-is_on : goal.returns-then-not-is_on
returns-then-not-is_on c = off c.args.log.now _ c.args.replies.now (search rules)

pub returns-in-len1-up : goal.returns-in-len1-up
returns-in-len1-up c =
    with_first c.reply-item.result (begins_at c.args.replies.now 0 c.reply-item.result c.in-len1-up.len_at_least c.reply-item.is)
    (rw (c.ip.ensures, c.is_stream-stream.ensures, c.as_slice.ensures) at c.put.ensures)
