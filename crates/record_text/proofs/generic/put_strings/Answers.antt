use Rattle.std.proofs.Common.{◌≡◌, ◌<◌, ℕ, List, [], ◌∷◌, ◌++◌, length, get_or, ap, append_assoc, arith}
use Rattle.wire_messages.specs.rr.RecordData.{character_string}

short : (strings : List (List ℕ)) (text : List ℕ) (i : ℕ) → text ≡ get_or strings i text → length (get_or strings i text) < 256 → length text < 256
short strings text i is small = omega (arith, ap length is, small)

one_string : (text x y z : List ℕ) (len : ℕ) → y ≡ x ++ len ∷ [] → z ≡ y ++ text → len ≡ length text → z ≡ x ++ character_string text
one_string text x y z len pushed put same = rw (put, pushed, same, append_assoc x (length text ∷ []) text)
