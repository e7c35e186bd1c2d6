use Rattle.std.proofs.Common.{◌≡◌, ◌≤◌, ℕ, List, [], ◌∷◌, true, length, take, get_or, arith}
use Rattle.text_words.specs.Spelling.{SpellsByte}
use Rattle.text_words.specs.Spelling.SpellsByte.{bare}
use Rattle.text_words.proofs.escapes.first_byte.Goals as goal

spelled-bare : (text : List ℕ) → 1 ≤ length text → (get_or text 0 0 ≡ 92 → ⊥) → SpellsByte (take 1 text) (get_or text 0 0) true
spelled-bare [] long other = absurd (omega arith)
spelled-bare (byte ∷ text) long other = bare other

pub returns-then-first-ne92-clause-spelled : goal.returns-then-first-ne92-clause-spelled
returns-then-first-ne92-clause-spelled c = spelled-bare c.args.text.now c.in-len1-up.len_at_least c.if-first-ne92.true
