-- One message more is signed behind those before it.
use Rattle.std.proofs.Common.{◌≡◌, ℕ, List, [], ◌∷◌, ◌++◌, rules, ap, sym, ◌∙◌, append_assoc}
use Rattle.signed_server.specs.SignedAnswers.AreSigned.{more, none}
use Rattle.signed_server.proofs.chains.signed.Goals as goal

pub loop-message-init : goal.loop-message-init
loop-message-init c = (rw c.new-leaving.ensures none, search rules)

pub loop-message-preserved : goal.loop-message-preserved
loop-message-preserved c =
    let so_far = c.loop-message.invariant in
    let rest : c.loop-message.message-iterator.rest.items ≡ c.in-Some.message ∷ c.next.new.self.rest.items = search rules in (
      rw c.in_ok-push.ensures.ok (more c.in-Some.message so_far.0 (rw c.as_ref.ensures.value at (rw c.as_slice.ensures at c.in_ok-made.ensures))),
      so_far.1 ∙ ap (λ (xs : List (List ℕ)). c.loop-message.yielded ++ xs) rest ∙ sym (append_assoc c.loop-message.yielded (c.in-Some.message ∷ []) c.next.new.self.rest.items),
    )
