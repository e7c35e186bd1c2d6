use Rattle.std.proofs.Common.{◌≡◌, ◌==◌, ◌∷◌, ◌+◌, ◌-◌, ℕ, Some, length, take, drop, length-drop, sym, ap, ◌∙◌, arith}
use Rattle.std.specs.List.{position, slice_split}
use Rattle.std.proofs.lemmas.List.{take_rest}
use Rattle.name_lists.proofs.Splitting.{position_some, position_none, split_none, split_some, drop_behind}
use Rattle.name_lists.proofs.words.split_at_byte.Goals as goal

pub returns-in_default : goal.returns-in_default
returns-in_default c =
    let p = λ (b : ℕ). b == c.args.byte in
    split_none p c.args.text.now (position_none p c.args.text.now (sym c.first_at.ensures ∙ c.in_default.is))

pub returns : goal.returns
returns c =
    let p = λ (b : ℕ). b == c.args.byte in
    let text = c.args.text.now in
    let n = c.in-Some.len in
    let found : position p text ≡ Some n = sym c.first_at.ensures ∙ c.in-Some.is in
    let within = position_some p text n found in
    let rest = c.split_at.result.1.now in
    let behind : take (length rest - 1) (drop 1 rest) ≡ drop (n + 1) text = take_rest rest 1 ∙ ap (drop 1) c.split_at.ensures.back ∙ drop_behind n text in (
      split_some p text n found ∙ ap (λ w. w ∷ slice_split p (drop (n + 1) text)) (sym c.split_at.ensures.front) ∙ ap (λ r. c.split_at.result.0.now ∷ slice_split p r) (sym behind),
      omega (arith, ap length behind, within.1, length-drop (n + 1) text),
    )
