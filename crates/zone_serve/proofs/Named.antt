-- Keys that texts name, one after the other.
use Rattle.std.proofs.Common.{◌≡◌, ◌∙◌, ◌<◌, ◌+◌, ◌++◌, ◌∷◌, [], ℕ, List, Bor, length, get_or, take, map, sym, ap, subst}
use Rattle.std.proofs.lemmas.List.{map-append, take_more}
use Rattle.std.specs.List.{AllZip}
use Rattle.tsig.specs.declared.keys.Key.{Key}
use Rattle.wire_names.specs.rr.domain.DomainName.{DomainName}
use Rattle.served_keys.specs.ServedKeys.{IsKeyNamed}

abbrev Named : Type 0
Named = Bor (List ℕ) × ℕ

pub zip_more : {A B : Type 0} (R : A → B → Type 0) (xs : List A) (ys : List B) (x : A) (y : B) → AllZip R xs ys → R x y → AllZip R (xs ++ x ∷ []) (ys ++ y ∷ [])
zip_more R [] [] x y all one = (one, tt)
zip_more R [] (z ∷ ys) x y all one = absurd all
zip_more R (z ∷ xs) [] x y all one = absurd all
zip_more R (z ∷ xs) (w ∷ ys) x y all one = (all.0, zip_more R xs ys x y all.1 one)

pub names_more : (keys : List Key) (arguments : List Named) (place : ℕ) (d : Named) (names : List DomainName) (name : DomainName) → place < length arguments
    → AllZip (IsKeyNamed keys) (map (λ (it : Named). it.0.now) (take place arguments)) names → IsKeyNamed keys (get_or arguments place d).0.now name
    → AllZip (IsKeyNamed keys) (map (λ (it : Named). it.0.now) (take (place + 1) arguments)) (names ++ name ∷ [])
names_more keys arguments place d names name inside so_far one =
    let text : Named → List ℕ = λ it. it.0.now in
    let texts : map text (take (place + 1) arguments) ≡ map text (take place arguments) ++ (get_or arguments place d).0.now ∷ [] =
    ap (map text) (take_more arguments place d inside) ∙ map-append text (take place arguments) (get_or arguments place d ∷ []) in
    subst (λ (l : List (List ℕ)). AllZip (IsKeyNamed keys) l (names ++ name ∷ [])) (sym texts)
    (zip_more (IsKeyNamed keys) (map text (take place arguments)) names (get_or arguments place d).0.now name so_far one)
