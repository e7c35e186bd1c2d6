-- What is written of replies, one after the other.
use Rattle.std.proofs.Common.{◌≡◌, ℕ, ◌+◌, ◌<◌, ◌≤◌, List, [], ◌∷◌, ◌++◌, Some, arith, refl, sym, ap, ◌∙◌, append_assoc, drop, drop-cons, get_or, length, take}
use Rattle.std.proofs.lemmas.List.{append-nil, length-drop, nil_from_length, take_more}
use Rattle.std.specs.List.{slice_get}
use Rattle.server.specs.Frames.{AreFrames, IsFrame}

-- One more of a list is taken.
pub one_more : (xs : List (List ℕ)) (i : ℕ) (x : List ℕ) → i < length xs → x ≡ get_or xs i x → take (i + 1) xs ≡ take i xs ++ x ∷ []
one_more xs i x within is = take_more xs i x within ∙ ap (λ (y : List ℕ). take i xs ++ y ∷ []) (sym is)

-- A frame stands behind others.
pub frames_more : (frames : List ℕ) (messages : List (List ℕ)) (frame message : List ℕ) → AreFrames frames messages → IsFrame frame message
    → AreFrames (frames ++ frame) (messages ++ message ∷ [])
frames_more frames [] frame message none one = (frame, [], one, refl, ap (λ (l : List ℕ). l ++ frame) none ∙ sym (append-nil frame))
frames_more frames (m ∷ ms) frame message (first, rest, it, others, is) one =
    (first, rest ++ frame, it, frames_more rest ms frame message others one, ap (λ (l : List ℕ). l ++ frame) is ∙ append_assoc first rest frame)

-- What is dropped up to an element begins with it.
pub begins_at : (xs : List (List ℕ)) (i : ℕ) (x : List ℕ) → i < length xs → x ≡ get_or xs i x → slice_get (drop i xs) 0 ≡ Some x
begins_at xs i x within is = ap (λ (ys : List (List ℕ)). slice_get ys 0) (drop-cons xs i x within) ∙ ap (λ (y : List ℕ). Some y) (sym is)

-- Nothing is left behind the last.
pub none_at_end : (xs : List (List ℕ)) (i : ℕ) → length xs ≤ i → drop i xs ≡ []
none_at_end xs i past = nil_from_length (drop i xs) (omega (arith, length-drop {A = List ℕ}))

-- Frames stand behind others.
pub frames_append : (frames others : List ℕ) (messages more : List (List ℕ)) → AreFrames frames messages → AreFrames others more → AreFrames (frames ++ others) (messages ++ more)
frames_append frames others [] more none are = rw none are
frames_append frames others (m ∷ ms) more (first, rest, it, behind, is) are =
    (first, rest ++ others, it, frames_append rest others ms more behind are, ap (λ (l : List ℕ). l ++ others) is ∙ append_assoc first rest others)
