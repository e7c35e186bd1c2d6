use Rattle.std.proofs.Common.{◌≡◌, ◌∙◌, ◌+◌, ℕ, Bool, true, false, List, Some, None, length, drop, sym, ap}
use Rattle.std.specs.Prelude.{◌==◌, if◌then◌else◌, nat_lt}
use Rattle.std.specs.List.{position, position_or_len}
use Rattle.std.proofs.lemmas.List.{take_rest}
use Rattle.zone_text.proofs.zone_file.number_range.parts.Goals as goal

by_test : (text : List ℕ) (test : Bool) (at len : ℕ) → (if test then Some at else None) ≡ Some len → (if test then Some (drop (at + 1) text) else None) ≡ Some (drop (len + 1) text)
by_test text true at len e = let same : at ≡ len = cc in ap (λ (n : ℕ). Some (drop (n + 1) text)) same
by_test text false at len e = absurd (cc)

pub returns-in-Some-clause-behind : goal.returns-in-Some-clause-behind
returns-in-Some-clause-behind c =
    let text : List ℕ = c.args.text.now in
    let at : ℕ = position_or_len (λ b. b == c.args.byte) text in
    let found : position (λ b. b == c.args.byte) text ≡ Some c.in-Some.len = sym c.first_at.ensures ∙ c.in-Some.is in
    by_test text (nat_lt at (length text)) at c.in-Some.len found ∙ ap (λ (t : List ℕ). Some t) (sym (take_rest text (c.in-Some.len + 1)))
