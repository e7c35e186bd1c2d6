-- The messages so far are signed.
use Rattle.std.proofs.Common.{◌≡◌, ◌++◌}
use Rattle.signed_server.specs.SignedAnswers.{AreSigned}
use Rattle.signed_server.proofs.chains.signed.Given as goal

abbrev pub invariant-loop-message : goal.invariant-loop-message
invariant-loop-message l = AreSigned l.keys l.judgement l.now l.yielded l.leaving l.prior × (l.fn.messages.items ≡ l.yielded ++ l.message-iterator.rest.items)
