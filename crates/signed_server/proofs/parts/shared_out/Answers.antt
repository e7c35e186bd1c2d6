-- One reply more is shared out.
use Rattle.std.proofs.Common.{◌≡◌, ℕ, List, [], ◌∷◌, ◌++◌, rules, ap, sym, ◌∙◌, append_assoc}
use Rattle.signed_server.specs.SharedReplies.AreSharedOut.{more, none}
use Rattle.signed_server.proofs.parts.shared_out.Goals as goal

pub loop-reply-init : goal.loop-reply-init
loop-reply-init c = (rw c.new-messages.ensures.items none, search rules)

pub loop-reply-preserved : goal.loop-reply-preserved
loop-reply-preserved c =
    let so_far = c.loop-reply.invariant in
    let (parts, is, grew) = c.in_ok-put_shared.ensures.put (search rules) in
    let rest : c.loop-reply.reply-iterator.rest.items ≡ c.in-Some.reply ∷ c.next.new.self.rest.items = search rules in (
      rw grew (more so_far.0 is),
      so_far.1 ∙ ap (λ (xs : List (List ℕ)). c.loop-reply.yielded ++ xs) rest ∙ sym (append_assoc c.loop-reply.yielded (c.in-Some.reply ∷ []) c.next.new.self.rest.items),
    )
