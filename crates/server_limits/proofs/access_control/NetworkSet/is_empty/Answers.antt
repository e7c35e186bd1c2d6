use Rattle.std.proofs.Common.{◌∙◌}
use Rattle.server_limits.proofs.lemmas.Sets.{first_empty}
use Rattle.server_limits.proofs.access_control.NetworkSet.is_empty.Goals as goal

pub returns-else-is_empty : goal.returns-else-is_empty
returns-else-is_empty c =
    let some = c.if-is_empty.false in (
      λ is. absurd (cc),
      λ none. let empty = c.is_empty.ensures.1 (first_empty c.self.inside.ipv4 c.self.inside.ipv6 (c.self.view_is ∙ none)) in absurd (cc),
    )
