-- How many lines end in a text, byte by byte.
use Rattle.std.proofs.Common.{◌≡◌, ℕ, Bool, true, false, ◌+◌, ◌==◌, ◌<◌, List, [], ◌∷◌, ◌++◌, cond, take, get_or, length, ap, ◌∙◌, arith}
use Rattle.std.proofs.lemmas.List.{take_more}
use Rattle.server_settings.specs.Settings.{line_ends}

added : (a b c : ℕ) → a + (b + c) ≡ a + b + c
added a b c = omega arith

ends_last : (text : List ℕ) (byte : ℕ) → line_ends (text ++ byte ∷ []) ≡ line_ends text + cond (byte == 10) 1 0
ends_last [] byte = omega arith
ends_last (first ∷ text) byte = ap (λ n. cond (first == 10) 1 0 + n) (ends_last text byte) ∙ added (cond (first == 10) 1 0) (line_ends text) (cond (byte == 10) 1 0)

pub ends_on : (text : List ℕ) (i : ℕ) → i < length text → line_ends (take (i + 1) text) ≡ line_ends (take i text) + cond (get_or text i 0 == 10) 1 0
ends_on text i within = ap line_ends (take_more text i 0 within) ∙ ends_last (take i text) (get_or text i 0)

one_at_most : (b : Bool) → cond b 1 0 < 2
one_at_most true = omega arith
one_at_most false = omega arith

pub few : (byte : ℕ) → cond (byte == 10) 1 0 < 2
few byte = one_at_most (byte == 10)
