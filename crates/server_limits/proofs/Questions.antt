-- Questions, label by label.
use Rattle.std.proofs.Common.{◌≡◌, ◌≤◌, ◌<◌, ◌+◌, ◌∙◌, ◌++◌, ◌∷◌, ℕ, List, ap, arith, drop, drop-cons, get_or, length, length-drop, suc, take}
use Rattle.std.proofs.Math.Seq.{take-add}
use Rattle.std.proofs.lemmas.List.{length-take-le}
use Rattle.server_limits.specs.Truncating.{AreLabels, IsQuestion, more}

-- What is taken from a place on begins with the byte there.
from_place : (bytes : List ℕ) (at len byte : ℕ) → at < length bytes → get_or bytes at 0 ≡ byte → take (at + (1 + len)) bytes ≡ take at bytes ++ byte ∷ take len (drop (at + 1) bytes)
from_place bytes at len byte within is =
    let one_more : 1 + len ≡ suc len = omega arith in
    let next : suc at ≡ at + 1 = omega arith in
    take-add at (1 + len) bytes
    ∙ ap (λ (xs : List ℕ). take at bytes ++ take (1 + len) xs) (drop-cons bytes at 0 within)
    ∙ ap (λ (n : ℕ). take at bytes ++ take n (get_or bytes at 0 ∷ drop (suc at) bytes)) one_more
    ∙ ap (λ (n : ℕ). take at bytes ++ get_or bytes at 0 ∷ take len (drop n bytes)) next
    ∙ ap (λ (x : ℕ). take at bytes ++ x ∷ take len (drop (at + 1) bytes)) is

-- One more label stands behind those before it.
pub labels_more : (bytes : List ℕ) (at label : ℕ) → AreLabels (take at bytes) → at + (1 + label) ≤ length bytes → get_or bytes at 0 ≡ label → 1 ≤ label → label ≤ 63
    → AreLabels (take (at + (1 + label)) bytes)
labels_more bytes at label before within is least most =
    let behind : label ≤ length (drop (at + 1) bytes) = omega (arith, length-drop {A = ℕ}) in
    more (take at bytes) (take label (drop (at + 1) bytes)) label before least most (length-take-le label (drop (at + 1) bytes) behind) (from_place bytes at label label (omega arith) is)

-- The root and four bytes end a question.
pub question_here : (bytes : List ℕ) (at : ℕ) → AreLabels (take at bytes) → at + 5 ≤ length bytes → get_or bytes at 0 ≡ 0 → IsQuestion (take (at + 5) bytes)
question_here bytes at before within is =
    let behind : 4 ≤ length (drop (at + 1) bytes) = omega (arith, length-drop {A = ℕ}) in
    (take at bytes, take 4 (drop (at + 1) bytes), before, length-take-le 4 (drop (at + 1) bytes) behind, from_place bytes at 4 0 (omega arith) is)
