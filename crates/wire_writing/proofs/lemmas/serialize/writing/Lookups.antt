-- What a look-up says of the notes.
use Rattle.std.proofs.Common.{◌≡◌, ℕ, zero, suc, ◌<◌, List, [], ◌∷◌, ◌++◌, length, get_or, Bool, true, false, cond, Option, Some, None, refl, sym, ap, ◌∙◌, arith}
use Rattle.std.specs.List.{All, Contains}
use Rattle.std.specs.Str.{bytes_eq}
use Rattle.std.proofs.lemmas.Slice.Eq.{bytes_eq-Decides}
use Rattle.std.proofs.lemmas.Bool.{both_ways, cond-false, false_from_ne_true}
use Rattle.std.proofs.lemmas.List.Elements.{All-head, All-tail}
use Rattle.wire_writing.specs.representation.Noted.{Notes, first_place}
use Rattle.wire_writing.proofs.lemmas.serialize.writing.FirstPlaces.{first_place-behind}

found_by : (b : Bool) (s t : List ℕ) (v p : ℕ) (ns : Notes) → (b ≡ true → s ≡ t) → cond b (Some v) (first_place s ns) ≡ Some p → (first_place s ns ≡ Some p → Contains ns (s, p)) → Contains ((t, v) ∷ ns) (s, p)
found_by true s t v p ns same e h =
    let here : t ≡ s = sym (same refl) in
    let value : v ≡ p = cc in
    (0, omega arith, cc)
found_by false s t v p ns same e h = let c = h e in (suc c.0, omega (arith, c.1), c.2)

-- What a look-up finds is a note.
pub note_found : (s : List ℕ) (p : ℕ) (notes : Notes) → first_place s notes ≡ Some p → Contains notes (s, p)
note_found s p [] e = cc
note_found s p (n ∷ ns) e = found_by (bytes_eq s n.0) s n.0 n.1 p ns (bytes_eq-Decides s n.0).0 e (note_found s p ns)

none_by : (b : Bool) (v : ℕ) (o : Option ℕ) → cond b (Some v) o ≡ None → (b ≡ false) × (o ≡ None)
none_by true v o e = cc
none_by false v o e = (refl, e)

missing_at : (s : List ℕ) (p k : ℕ) (notes : Notes) → first_place s notes ≡ None → k < length notes → get_or notes k (s, p) ≡ (s, p) → ⊥
missing_at s p k [] e lt is = omega arith
missing_at s p zero (n ∷ ns) e lt is = let same : n.0 ≡ s = ap (λ x. x.0) is in let differs = (none_by (bytes_eq s n.0) n.1 (first_place s ns) e).0 in both_ways (bytes_eq s n.0) differs ((bytes_eq-Decides s n.0).1 (sym same))
missing_at s p (suc k) (n ∷ ns) e lt is = missing_at s p k ns (none_by (bytes_eq s n.0) n.1 (first_place s ns) e).1 (omega arith) is

-- What a look-up misses is no note.
pub note_missing : (s : List ℕ) (p : ℕ) (notes : Notes) → first_place s notes ≡ None → Contains notes (s, p) → ⊥
note_missing s p notes e c = missing_at s p c.0 notes e c.1 c.2

shorter_none : (s : List ℕ) (notes : Notes) → All (λ note. length note.0 < length s) notes → first_place s notes ≡ None
shorter_none s [] h = refl
shorter_none s (n ∷ ns) h =
    let short : length n.0 < length s = All-head (λ note. length note.0 < length s) n ns h in
    let differs : bytes_eq s n.0 ≡ false = false_from_ne_true (bytes_eq s n.0) (λ t. omega (arith, ap length ((bytes_eq-Decides s n.0).0 t))) in
    cond-false (bytes_eq s n.0) (Some n.1) (first_place s ns) differs ∙ shorter_none s ns (All-tail (λ note. length note.0 < length s) n ns h)

-- A suffix stays fresh while shorter ones are noted.
pub fresh_behind : (s : List ℕ) (notes more : Notes) → first_place s notes ≡ None → All (λ note. length note.0 < length s) more → first_place s (notes ++ more) ≡ None
fresh_behind s notes more e h = first_place-behind s notes more e ∙ shorter_none s more h
