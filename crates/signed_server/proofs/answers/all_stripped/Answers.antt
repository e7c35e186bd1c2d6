-- One reply more is without its signature.
use Rattle.std.proofs.Common.{◌≡◌, List, ℕ, [], ◌∷◌, ◌++◌, rules, ap, sym, ◌∙◌, append_assoc}
use Rattle.std.proofs.lemmas.List.Elements.{AllZip-push}
use Rattle.tsig.specs.Stripping.{IsStripped}
use Rattle.signed_server.proofs.answers.all_stripped.Goals as goal

pub loop-reply-preserved : goal.loop-reply-preserved
loop-reply-preserved c =
    let so_far = c.loop-reply.invariant in
    let more : c.loop-reply.reply-iterator.rest.items ≡ c.in-Some.reply ∷ c.next.new.self.rest.items = search rules in (
      rw c.in_ok-push.ensures.items (AllZip-push IsStripped c.loop-reply.yielded c.loop-reply.messages.items c.in-Some.reply c.in_ok-stripped.field-0 so_far.0 c.in_ok-stripped.ensures),
      so_far.1 ∙ ap (λ (xs : List (List ℕ)). c.loop-reply.yielded ++ xs) more ∙ sym (append_assoc c.loop-reply.yielded (c.in-Some.reply ∷ []) c.next.new.self.rest.items),
    )
