-- Rules of arguments, one after the other.
use Rattle.std.proofs.Common.{◌<◌, ◌+◌, ◌++◌, ◌∷◌, [], ℕ, List, length, get_or, take, sym, subst}
use Rattle.std.proofs.lemmas.List.{take_more}
use Rattle.std.specs.List.{AllZip}
use Rattle.tsig.specs.declared.keys.Key.{Key}
use Rattle.served_zones.specs.declared.grants.Grant.{Grant}
use Rattle.zone_serve.specs.Catalogs.{IsGrantBy}
use Rattle.serve_options.specs.declared.arguments.UpdateArgument.{UpdateArgument}

pub grants_more : (keys : List Key) (arguments : List UpdateArgument) (place : ℕ) (d : UpdateArgument) (grants : List Grant) (grant : Grant) → place < length arguments
    → AllZip (IsGrantBy keys) (take place arguments) grants → IsGrantBy keys (get_or arguments place d) grant
    → AllZip (IsGrantBy keys) (take (place + 1) arguments) (grants ++ grant ∷ [])
grants_more keys arguments place d grants grant inside so_far one =
    subst (λ (l : List UpdateArgument). AllZip (IsGrantBy keys) l (grants ++ grant ∷ [])) (sym (take_more arguments place d inside))
    (zip_rows (take place arguments) grants so_far)
  where
    zip_rows : (xs : List UpdateArgument) (ys : List Grant) → AllZip (IsGrantBy keys) xs ys → AllZip (IsGrantBy keys) (xs ++ get_or arguments place d ∷ []) (ys ++ grant ∷ [])
    zip_rows [] [] all = (one, tt)
    zip_rows [] (y ∷ ys) all = absurd all
    zip_rows (x ∷ xs) [] all = absurd all
    zip_rows (x ∷ xs) (y ∷ ys) all = (all.0, zip_rows xs ys all.1)
