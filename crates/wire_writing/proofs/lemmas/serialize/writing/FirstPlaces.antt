-- Notes of names, and the first place of one among them.
use Rattle.std.proofs.Common.{◌≡◌, ◌≢◌, inl, inr, ℕ, suc, ◌+◌, ◌<◌, zero, ◌-◌, List, [], ◌∷◌, ◌++◌, length, take, drop, get_or, Bool, true, false, cond, Option, Some, None, refl, sym, ap, ◌∙◌, subst, arith, length-append, drop-cons, length-take}
use Rattle.std.specs.Prelude.{IfSome}
use Rattle.std.specs.List.{All}
use Rattle.std.specs.Str.{bytes_eq}
use Rattle.std.proofs.lemmas.Slice.Eq.{bytes_eq-Decides}
use Rattle.std.proofs.lemmas.Bool.{cases_lt, cond-true, cond-false, false_from_ne_true, both_ways}
use Rattle.std.proofs.lemmas.List.{append_assoc, take-append-drop, map-append, get_or-take, take-take, take-append-le, get_or_append_left, get_or-append-add, take_all, get_or-map, take-map, length-map, map_more}
use Rattle.std.proofs.Math.Seq.{take-nil}
use Rattle.std.proofs.lemmas.List.Elements.{All-head, All-tail, All-push, All-take}
use Rattle.wire_writing.specs.representation.Noted.{Notes, IsPlace, first_place, IsNotedAt}
use Rattle.wire_writing.specs.representation.NameTable.{pairs, AreApart, AreLinked, IsKept, IsTable}
use Rattle.wire_writing.specs.declared.serialize.writing.compression_table.Note.{Note}
use Rattle.wire_writing.specs.declared.serialize.writing.compression_table.KeptName.{KeptName}

skipped : (b : Bool) (v : ℕ) (o r s : Option ℕ) → cond b (Some v) o ≡ None → (o ≡ None → r ≡ s) → cond b (Some v) r ≡ s
skipped true v o r s e h = cc
skipped false v o r s e h = h e

pub first_place-behind : (s : List ℕ) (xs ys : Notes) → first_place s xs ≡ None → first_place s (xs ++ ys) ≡ first_place s ys
first_place-behind s [] ys e = refl
first_place-behind s (x ∷ xs) ys e = skipped (bytes_eq s x.0) x.1 (first_place s xs) (first_place s (xs ++ ys)) (first_place s ys) e (first_place-behind s xs ys)

left_none : (b : Bool) (v : ℕ) (o : Option ℕ) → cond b (Some v) o ≡ None → o ≡ None
left_none true v o e = cc
left_none false v o e = e

-- What is not among notes is not among the last of them.
pub first_place-rest : (s : List ℕ) (xs ys : Notes) → first_place s (xs ++ ys) ≡ None → first_place s ys ≡ None
first_place-rest s [] ys e = e
first_place-rest s (x ∷ xs) ys e = first_place-rest s xs ys (left_none (bytes_eq s x.0) x.1 (first_place s (xs ++ ys)) e)

pub first_place-before : (s : List ℕ) (xs ys : Notes) → first_place s ys ≡ None → first_place s (xs ++ ys) ≡ first_place s xs
first_place-before s [] ys e = e
first_place-before s (x ∷ xs) ys e = ap (λ o. cond (bytes_eq s x.0) (Some x.1) o) (first_place-before s xs ys e)

same_here : (s k : List ℕ) → bytes_eq s k ≡ true → s ≡ k
same_here s k e = (bytes_eq-Decides s k).0 e

flipped_true : (s k : List ℕ) → bytes_eq s k ≡ true → bytes_eq k s ≡ true
flipped_true s k e = (bytes_eq-Decides k s).1 (sym (same_here s k e))

pub flipped_false : (s k : List ℕ) → bytes_eq s k ≡ false → bytes_eq k s ≡ false
flipped_false s k e = false_from_ne_true (bytes_eq k s) (λ t. both_ways (bytes_eq s k) e (flipped_true k s t))

-- A note is found where no earlier one has its suffix.
pub first_place-at : (s : List ℕ) (xs : Notes) (x : List ℕ × ℕ) (ys : Notes) → first_place s xs ≡ None → bytes_eq x.0 s ≡ true → first_place s (xs ++ x ∷ ys) ≡ Some x.1
first_place-at s xs x ys e h = first_place-behind s xs (x ∷ ys) e ∙ cond-true (bytes_eq s x.0) (Some x.1) (first_place s ys) (flipped_true x.0 s h)

-- one note more, of another suffix
pub first_place-other : (s : List ℕ) (xs : Notes) (x : List ℕ × ℕ) → bytes_eq s x.0 ≡ false → first_place s (xs ++ x ∷ []) ≡ first_place s xs
first_place-other s xs x e = first_place-before s xs (x ∷ []) (cond-false (bytes_eq s x.0) (Some x.1) None e)

-- A suffix is not among notes of longer ones.
pub fresh_longer : (s : List ℕ) (notes : Notes) → All (λ note. length s < length note.0) notes → first_place s notes ≡ None
fresh_longer s [] h = refl
fresh_longer s (n ∷ ns) h =
    let longer = All-head (λ note. length s < length note.0) n ns h in
    let other = false_from_ne_true (bytes_eq s n.0) (λ t. omega (arith, longer, ap length (same_here s n.0 t))) in
    cond-false (bytes_eq s n.0) (Some n.1) (first_place s ns) other ∙ fresh_longer s ns (All-tail (λ note. length s < length note.0) n ns h)

in_range_by : (b : Bool) (v : ℕ) (o : Option ℕ) → IsPlace v → IfSome o (λ p. IsPlace p) → IfSome (cond b (Some v) o) (λ p. IsPlace p)
in_range_by true v o h k = h
in_range_by false v o h k = k

pub first_place-in_range : (s : List ℕ) (notes : Notes) → All (λ note. IsPlace note.1) notes → IfSome (first_place s notes) (λ p. IsPlace p)
first_place-in_range s [] h = tt
first_place-in_range s (n ∷ ns) h = in_range_by (bytes_eq s n.0) n.1 (first_place s ns) (All-head (λ note. IsPlace note.1) n ns h) (first_place-in_range s ns (All-tail (λ note. IsPlace note.1) n ns h))

pub place_in_range : (s : List ℕ) (p : ℕ) (notes : Notes) → All (λ note. IsPlace note.1) notes → first_place s notes ≡ Some p → IsPlace p
place_in_range s p notes h e = let all = first_place-in_range s notes h in rw e at all

pub AreApart-take : (n : ℕ) (notes : Notes) → AreApart notes → AreApart (take n notes)
AreApart-take n notes h k d lt =
    let below : k < n = omega (arith, length-take n notes) in
    let long : k < length notes = omega (arith, length-take n notes) in
    rw (get_or-take n notes k d below, take-take k n notes (omega arith)) (h k d long)

pub AreApart-push : (notes : Notes) (s : List ℕ) (p : ℕ) → AreApart notes → first_place s notes ≡ None → AreApart (notes ++ (s, p) ∷ [])
AreApart-push notes s p h fresh k d lt =
    let more = length-append notes ((s, p) ∷ []) in
    elim (cases_lt k (length notes)) [
      | inl below ↦ rw (get_or_append_left notes ((s, p) ∷ []) d k below, take-append-le k notes ((s, p) ∷ []) (omega arith)) (h k d below)
      | inr above ↦
          let at : k ≡ length notes + 0 = omega (arith, more) in
          let all : take k (notes ++ (s, p) ∷ []) ≡ notes = take-append-le k notes ((s, p) ∷ []) (omega arith) ∙ take_all k notes (omega arith) in
          let here : get_or (notes ++ (s, p) ∷ []) k d ≡ (s, p) = ap (λ i. get_or (notes ++ (s, p) ∷ []) i d) at ∙ get_or-append-add notes ((s, p) ∷ []) 0 d in
          rw (here, all) fresh
    ]

abbrev pub pair : Note → List ℕ × ℕ
pair note = (note.suffix.now, note.place)

-- ---- the notes below an index, and the one there
module _ (notes : List Note) (i : ℕ) (n : Note) (lt : i < length notes) (is : get_or notes i n ≡ n) where
  pub pairs-more : pairs (take (i + 1) notes) ≡ pairs (take i notes) ++ pair n ∷ []
  pairs-more = map_more pair notes i n lt ∙ ap (λ x. pairs (take i notes) ++ pair x ∷ []) is

  pairs-split : pairs notes ≡ pairs (take i notes) ++ pair n ∷ pairs (drop (suc i) notes)
  pairs-split = ap pairs (sym (take-append-drop i notes)) ∙ map-append pair (take i notes) (drop i notes) ∙ ap (λ xs. pairs (take i notes) ++ pairs xs) (drop-cons notes i n lt ∙ ap (λ x. x ∷ drop (suc i) notes) is)

  pub found_at : (s : List ℕ) → first_place s (pairs (take i notes)) ≡ None → bytes_eq n.suffix.now s ≡ true → Some n.place ≡ first_place s (pairs notes)
  found_at s none e = sym (ap (λ xs. first_place s xs) pairs-split ∙ first_place-at s (pairs (take i notes)) (pair n) (pairs (drop (suc i) notes)) none e)

  pub none_below : (s : List ℕ) → first_place s (pairs (take i notes)) ≡ None → bytes_eq n.suffix.now s ≡ false → first_place s (pairs (take (i + 1) notes)) ≡ None
  none_below s none e = ap (λ xs. first_place s xs) pairs-more ∙ first_place-other s (pairs (take i notes)) (pair n) (flipped_false n.suffix.now s e) ∙ none

  pub fresh_at : AreApart (pairs notes) → first_place n.suffix.now (pairs (take i notes)) ≡ None
  fresh_at h =
      let long : i < length (pairs notes) = omega (arith, length-map notes pair) in
      let named : get_or (pairs notes) i (pair n) ≡ pair n = get_or-map pair notes i n (pair n) lt ∙ ap pair is in
      ap (λ x. first_place x.0 (pairs (take i notes))) (sym named) ∙ ap (λ xs. first_place (get_or (pairs notes) i (pair n)).0 xs) (sym (take-map pair i notes)) ∙ h i (pair n) long

-- What was found is found behind more notes.
found_by : (b : Bool) (v : ℕ) (o r : Option ℕ) (p : ℕ) → cond b (Some v) o ≡ Some p → (o ≡ Some p → r ≡ Some p) → cond b (Some v) r ≡ Some p
found_by true v o r p e h = e
found_by false v o r p e h = h e

pub first_place-front : (s : List ℕ) (p : ℕ) (xs ys : Notes) → first_place s xs ≡ Some p → first_place s (xs ++ ys) ≡ Some p
first_place-front s p [] ys e = cc
first_place-front s p (x ∷ xs) ys e = found_by (bytes_eq s x.0) x.1 (first_place s xs) (first_place s (xs ++ ys)) p e (first_place-front s p xs ys)

-- ---- names that are kept
pub more_kept : (kept : Option KeptName) (all more : Notes) → IsKept all kept → IsKept (all ++ more) kept
more_kept None all more h = tt
more_kept (Some name) all more h = (h.0, first_place-front name.wire.now name.place all more h.1)

pub none_kept : (kept : Option KeptName) (all : Notes) → IsKept [] kept → IsKept all kept
none_kept None all h = tt
none_kept (Some name) all h = cc

kept_as : (kept : Option KeptName) (all all' : Notes) → all' ≡ all → IsKept all kept → IsKept all' kept
kept_as kept all all' e h = subst (λ ns. IfSome kept (λ name. IsNotedAt ns name.wire.now name.place)) (sym e) h

-- ---- the table as a whole
module _ (asked : Notes) (notes notes' : List Note) (owner target : Option KeptName) (lasts lasts' : List ℕ) where
  behind : (more : Notes) → pairs notes' ≡ pairs notes ++ more → asked ++ pairs notes' ≡ (asked ++ pairs notes) ++ more
  behind more e = ap (λ ns. asked ++ ns) e ∙ sym (append_assoc asked (pairs notes) more)

  -- with one note more
  pub IsTable-push : (s : List ℕ) (p : ℕ) → IsTable asked notes owner target lasts → pairs notes' ≡ pairs notes ++ (s, p) ∷ [] → first_place s (pairs notes) ≡ None → IsPlace p → (lasts' ≢ [] → AreLinked notes' lasts') → IsTable asked notes' owner target lasts'
  IsTable-push s p t e fresh at h =
      let one : Notes = (s, p) ∷ [] in
      let all : Notes = asked ++ pairs notes in
      let is = behind one e in
      record {
        apart = subst (λ ns. AreApart ns) (sym e) (AreApart-push (pairs notes) s p t.apart fresh);
        in_range = subst (λ ns. All (λ note. IsPlace note.1) ns) (sym is) (All-push (λ note. IsPlace note.1) all (s, p) t.in_range at);
        linked = h;
        owner_kept = kept_as owner (all ++ one) (asked ++ pairs notes') is (more_kept owner all one t.owner_kept);
        target_kept = kept_as target (all ++ one) (asked ++ pairs notes') is (more_kept target all one t.target_kept);
      }

  -- with the first so many notes
  pub IsTable-take : (j k : ℕ) (asked' : Notes) → IsTable asked notes owner target lasts → asked' ++ pairs notes' ≡ take j (asked ++ pairs notes) → pairs notes' ≡ take k (pairs notes) → (lasts' ≢ [] → AreLinked notes' lasts') → IsTable asked' notes' None None lasts'
  IsTable-take j k asked' t all e h = record {
    apart = subst (λ ns. AreApart ns) (sym e) (AreApart-take k (pairs notes) t.apart);
    in_range = subst (λ ns. All (λ note. IsPlace note.1) ns) (sym all) (All-take (λ note. IsPlace note.1) j (asked ++ pairs notes) t.in_range);
    linked = h;
    owner_kept = tt;
    target_kept = tt;
  }

-- The first so many of all notes are the first of the question's, and of the others those that are left.
pub take_both : {X : Type 0} (xs ys : List X) (n : ℕ) → take n xs ++ take (n - length xs) ys ≡ take n (xs ++ ys)
take_both [] ys n =
    let all : n - 0 ≡ n = omega arith in
    ap (λ xs. xs ++ take (n - 0) ys) (take-nil n) ∙ ap (λ k. take k ys) all
take_both (x ∷ xs) ys zero =
    let none : 0 - length (x ∷ xs) ≡ 0 = omega arith in
    ap (λ k. take k ys) none
take_both (x ∷ xs) ys (suc n) =
    let left : suc n - length (x ∷ xs) ≡ n - length xs = omega arith in
    ap (λ r. x ∷ r) (ap (λ k. take n xs ++ take k ys) left ∙ take_both xs ys n)
