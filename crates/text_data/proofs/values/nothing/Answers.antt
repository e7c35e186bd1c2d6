use Rattle.std.proofs.Common.{◌≤◌, ◌<◌, ℕ, List, [], ◌∷◌, length, arith}
use Rattle.text_data.specs.declared.kinds.ValueKind.TheVariants as value
use Rattle.text_data.specs.ServiceText.{HasNone, IsValue}
use Rattle.text_data.specs.ServiceText.IsValue.{nothing}
use Rattle.text_data.proofs.values.nothing.Goals as goal

empty : (t : List ℕ) → length t ≤ 0 → IsValue value.Nothing t [] []
empty [] short = nothing
empty (b ∷ t) short = absurd (omega (arith, short))

pub returns-clause-is : goal.returns-clause-is
returns-clause-is c = rw (c.without_keys.ensures.listed, c.without_keys.ensures.octets, c.new.ensures.items) (empty c.args.text.now (omega (arith, c.if-len-gt0.false)))

some : (t : List ℕ) → 0 < length t → (listed : List ℕ) → HasNone (IsValue value.Nothing t listed)
some t long listed octets nothing = absurd (omega (arith, long))

pub returns-then-len-gt0-clause-refused : goal.returns-then-len-gt0-clause-refused
returns-then-len-gt0-clause-refused c = λ other. some c.args.text.now (omega (arith, c.if-len-gt0.true))
