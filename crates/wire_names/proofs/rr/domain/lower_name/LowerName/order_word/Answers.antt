use Rattle.std.proofs.Common.{ℕ, List, length, ap, ◌∙◌}
use Rattle.wire_names.specs.rr.domain.DomainName.{DomainName}
use Rattle.wire_names.specs.representation.OrderKey.{order_key, order_word, word_behind}
use Rattle.wire_names.proofs.rr.domain.lower_name.LowerName.order_word.Goals as goal

pub returns-clause-is : goal.returns-clause-is
unfolding order_word
returns-clause-is c =
    c.word_from.ensures.is
    ∙ ap (word_behind (length c.as_slice.result.now)) c.self.invariant.1
    ∙ ap (λ (k : List ℕ). word_behind (length k) (order_key c.self.inside.name.labels)) (c.as_slice.ensures ∙ c.above.invariant.1)
    ∙ ap (λ (d : DomainName). order_word d.labels c.self.inside.name.labels) c.above.view_is
    ∙ ap (λ (d : DomainName). order_word c.args.above.now.labels d.labels) c.self.view_is
