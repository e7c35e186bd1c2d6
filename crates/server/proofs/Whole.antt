-- A message that stands whole at the front of bytes.
use Rattle.std.proofs.Common.{◌≡◌, ℕ, ◌+◌, ◌-◌, ◌*◌, ◌<◌, ◌≤◌, List, [], ◌∷◌, arith, refl, sym, ap, ◌∙◌, get_or, length, take, drop}
use Rattle.std.proofs.lemmas.List.{length-take-le, take-append-drop, take_all}
use Rattle.server.specs.Frames.{BeginsWith}

pub begins : (bytes : List ℕ) (len : ℕ) → 2 ≤ length bytes → len ≡ 256 * get_or bytes 0 0 + get_or bytes 1 0 → get_or bytes 1 0 < 256
    → len ≤ length (take (length bytes - 2) (drop 2 bytes)) → BeginsWith bytes (take len (take (length bytes - 2) (drop 2 bytes)))
begins [] len two is low within = absurd (omega arith)
begins (high ∷ []) len two is low within = absurd (omega arith)
begins (high ∷ low ∷ rest) len two is low_in within =
    let behind : List ℕ = take (length (high ∷ low ∷ rest) - 2) rest in
    let all : behind ≡ rest = take_all _ rest (omega arith) in (
      high ∷ low ∷ take len behind,
      drop len behind,
      record { high = high; low = low; low_in = low_in; length_is = length-take-le len behind within ∙ is; bytes_are = refl },
      ap (λ (xs : List ℕ). high ∷ low ∷ xs) (sym all ∙ sym (take-append-drop len behind)),
    )
