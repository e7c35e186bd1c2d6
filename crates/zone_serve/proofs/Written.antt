-- What is written of replies, one after the other.
use Rattle.std.proofs.Common.{◌≡◌, ℕ, ◌+◌, ◌<◌, List, ◌++◌, [], ◌∷◌, ap, ◌∙◌, get_or, length, take}
use Rattle.std.proofs.lemmas.List.{append-nil}
use Rattle.std.proofs.lemmas.List.Folds.{concat-append}
use Rattle.std.specs.List.{concat}
use Rattle.server.proofs.Written.{one_more}

pub concat_more : (xs : List (List ℕ)) (i : ℕ) (x : List ℕ) → i < length xs → x ≡ get_or xs i x → concat (take (i + 1) xs) ≡ concat (take i xs) ++ x
concat_more xs i x within is = ap concat (one_more xs i x within is) ∙ concat-append (take i xs) (x ∷ []) ∙ ap (λ (l : List ℕ). concat (take i xs) ++ l) (append-nil x)
