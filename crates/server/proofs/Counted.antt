-- Messages that are counted, one after the other.
use Rattle.std.proofs.Common.{◌≡◌, ℕ, List, [], ◌∷◌, ◌++◌, fold, refl}
use Rattle.server_reports.specs.declared.counters.Counters.{Counters}

-- one more is counted behind those before it
pub fold_more : (count : Counters → List ℕ → Counters) (first : Counters) (messages : List (List ℕ)) (message : List ℕ)
    → count (fold count first messages) message ≡ fold count first (messages ++ message ∷ [])
fold_more count first [] message = refl
fold_more count first (m ∷ ms) message = fold_more count (count first m) ms message
