-- The replies so far are shared out.
use Rattle.std.proofs.Common.{◌≡◌, ◌++◌}
use Rattle.signed_server.specs.SharedReplies.{AreSharedOut}
use Rattle.signed_server.proofs.parts.shared_out.Given as goal

abbrev pub invariant-loop-reply : goal.invariant-loop-reply
invariant-loop-reply l = AreSharedOut l.limit l.request.message l.yielded l.messages.items × (l.fn.replies.items ≡ l.yielded ++ l.reply-iterator.rest.items)
