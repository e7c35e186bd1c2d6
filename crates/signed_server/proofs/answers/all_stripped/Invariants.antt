-- The replies so far are without their signatures.
use Rattle.std.proofs.Common.{◌≡◌, ◌++◌}
use Rattle.std.specs.List.{AllZip}
use Rattle.tsig.specs.Stripping.{IsStripped}
use Rattle.signed_server.proofs.answers.all_stripped.Given as goal

abbrev pub invariant-loop-reply : goal.invariant-loop-reply
invariant-loop-reply l = AllZip IsStripped l.yielded l.messages.items × (l.fn.replies ≡ l.yielded ++ l.reply-iterator.rest.items)
