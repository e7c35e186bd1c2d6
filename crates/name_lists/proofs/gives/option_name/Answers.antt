use Rattle.std.proofs.Common.{◌≡◌, ◌==◌, ◌∷◌, ◌<◌, [], length, sym, ap, ◌∙◌}
use Rattle.std.specs.List.{slice_split}
use Rattle.name_lists.specs.Gives.{name_of_option}
use Rattle.name_lists.proofs.NameLines.{match_some}
use Rattle.name_lists.proofs.Splitting.{some_parts}
use Rattle.name_lists.proofs.gives.option_name.Goals as goal

pub returns-then-is_some : goal.returns-then-is_some
returns-then-is_some c =
    let key = c.in-Some.key.now in
    let name = c.in-Some-split_at_byte.name.now in
    let left = c.in-Some-split_at_byte.behind.now in
    let third = match_some c.split_at_byte-3.result (slice_split (λ b. b == 47) left ≡ left ∷ [])
    (λ p. (slice_split (λ b. b == 47) left ≡ p.0.now ∷ slice_split (λ b. b == 47) p.1.now) × (length p.1.now < length left))
    (sym c.is_some.ensures ∙ c.if-is_some.true) c.split_at_byte-3.ensures in
    let fourth = some_parts (λ b. b == 47) third.0.1.now in
    sym (ap name_of_option (c.in-Some.ensures.0 ∙ ap (λ ps. key ∷ ps) (c.in-Some-split_at_byte.ensures.0 ∙ ap (λ ps. name ∷ ps) (third.1.0 ∙ ap (λ ps. third.0.0.now ∷ ps) fourth.2))))
