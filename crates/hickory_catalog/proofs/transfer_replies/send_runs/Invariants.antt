use Rattle.std.proofs.Common.{length}
use Rattle.std.specs.Option.{option_copied}
use Rattle.hickory_catalog.proofs.lemmas.replies.SentInOrder.{RunsSoFar}
use Rattle.hickory_catalog.specs.transfers.Transfers.{size_without_answers}
use Rattle.hickory_catalog.proofs.transfer_replies.send_runs.Given as goal

-- the messages of the runs so far were taken, and the rest is to follow
abbrev pub invariant-loop-len : goal.invariant-loop-len
invariant-loop-len g l = RunsSoFar g.R.ResponseHandler l.request (option_copied l.edns) (size_without_answers l.request (option_copied l.edns)) l.room l.fn.sink l.fn.records l.sink l.rest l.len

abbrev pub decreases-loop-len : goal.decreases-loop-len
decreases-loop-len g l = length l.rest
