-- Bytes of one length that are the same up to a place.
use Rattle.std.proofs.Common.{◌≡◌, ℕ, ◌≤◌, List, length, take, take_all, sym, ◌∙◌, arith}

pub same_whole : (n : ℕ) (a b : List ℕ) → length a ≡ length b → length a ≤ n → take n a ≡ take n b → a ≡ b
same_whole n a b long le e = sym (take_all n a le) ∙ e ∙ take_all n b (omega arith)
