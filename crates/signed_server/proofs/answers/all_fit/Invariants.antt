-- The messages so far fit.
use Rattle.std.proofs.Common.{All, take}
use Rattle.signed_server.specs.SharedReplies.{Fits}
use Rattle.signed_server.proofs.answers.all_fit.Given as goal

abbrev pub invariant-loop-message : goal.invariant-loop-message
invariant-loop-message l = All (Fits l.limit) (take l.message-index l.messages)
