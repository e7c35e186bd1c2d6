-- Notes that lie in buckets, each of which leads to the one before it in its bucket.
use Rattle.std.proofs.Common.{◌≡◌, ◌≢◌, inl, inr, ℕ, zero, suc, ◌+◌, ◌%◌, ◌<◌, ◌≤◌, List, [], ◌∷◌, ◌++◌, length, take, drop, get_or, set, replicate, true, false, None, Some, refl, sym, ap, ◌∙◌, subst, arith, length-append, length-take}
use Rattle.std.specs.Hash.FoldHasher.{initial, write, finish}
use Rattle.std.specs.List.{All}
use Rattle.std.specs.Str.{bytes_eq}
use Rattle.std.proofs.lemmas.Slice.Eq.{bytes_eq-Decides}
use Rattle.std.proofs.lemmas.Bool.{cases_lt, cases_eq, false_from_ne_true, cond-false}
use Rattle.std.proofs.lemmas.List.{take-append-drop, map-append, get_or-take, take-take, take-append-le, get_or_append_left, get_or-append-add, take_all, length-map, length-set, length-replicate, get_or-replicate, get_or-set_same, get_or-set_other, get_or-map, drop_all, drop-append-le, drop-map, take-map}
use Rattle.std.proofs.lemmas.List.Elements.{All-head, All-tail, All-push, All-nil, All-pop}
use Rattle.wire_writing.specs.representation.Noted.{first_place}
use Rattle.wire_writing.specs.representation.NameTable.{pairs, bucket, buckets, befores, AreApart, IsLast, AreLinked}
use Rattle.wire_writing.specs.declared.serialize.writing.compression_table.Note.{Note}
use Rattle.wire_writing.proofs.lemmas.serialize.writing.FirstPlaces.{pair, first_place-before, first_place-other, flipped_false, pairs-more, fresh_at, found_at}

pub bucket_small : (s : List ℕ) → bucket s < 1024
unfolding bucket write
bucket_small s =
    let below : (n : ℕ) → n % 1024 < 1024 = λ n. omega arith in
    below (finish (write initial s))

-- what is put back of a vector whose elements were written in place
pub front_whole : (n : ℕ) (xs ys : List ℕ) → length xs ≡ n → take n (xs ++ ys) ≡ xs
front_whole n xs ys e = take-append-le n xs ys (omega (arith, e)) ∙ take_all n xs (omega (arith, e))

-- ---- the last one of a bucket
no_others : (b : ℕ) (cs : List ℕ) → cs ≡ [] → All (λ c. c ≢ b) cs
no_others b cs e = subst (λ xs. All (λ c. c ≢ b) xs) (sym e) (All-nil (λ c. c ≢ b))

last_of_none : (b : ℕ) → IsLast b [] 0
last_of_none b = record { within = omega arith; is = λ i e. absurd (omega (arith, e)); others = no_others b [] refl }

last_here : (b : ℕ) (bs : List ℕ) → IsLast b (bs ++ b ∷ []) (length bs + 1)
last_here b bs =
    let long = length-append bs (b ∷ []) in
    record {
      within = omega (arith, long);
      is = λ i e. let at : i ≡ length bs + 0 = omega (arith, e) in ap (λ j. get_or (bs ++ b ∷ []) j 0) at ∙ get_or-append-add bs (b ∷ []) 0 0;
      others = no_others b (drop (length bs + 1) (bs ++ b ∷ [])) (drop_all (length bs + 1) (bs ++ b ∷ []) (omega (arith, long)));
    }

last_elsewhere : (b c : ℕ) (bs : List ℕ) (last : ℕ) → c ≢ b → IsLast b bs last → IsLast b (bs ++ c ∷ []) last
last_elsewhere b c bs last ne p =
    record {
      within = omega (arith, length-append bs (c ∷ []), p.within);
      is = λ i e. get_or_append_left bs (c ∷ []) 0 i (omega (arith, e, p.within)) ∙ p.is i e;
      others = subst (λ xs. All (λ c. c ≢ b) xs) (sym (drop-append-le last bs (c ∷ []) p.within)) (All-push (λ c. c ≢ b) (drop last bs) c p.others ne);
    }

within_before : (b c : ℕ) (bs : List ℕ) (last : ℕ) → c ≢ b → IsLast b (bs ++ c ∷ []) last → last ≤ length bs
within_before b c bs last ne p = elim (cases_lt (length bs) last) [
  | inl above ↦
      let at : last ≡ suc (length bs + 0) = omega (arith, above, p.within, length-append bs (c ∷ [])) in
      absurd (ne (sym (get_or-append-add bs (c ∷ []) 0 0) ∙ p.is (length bs + 0) at))
  | inr below ↦ omega (arith, below)
]

last_before : (b c : ℕ) (bs : List ℕ) (last : ℕ) → c ≢ b → IsLast b (bs ++ c ∷ []) last → IsLast b bs last
last_before b c bs last ne p =
    let within = within_before b c bs last ne p in
    record {
      within = within;
      is = λ i e. sym (get_or_append_left bs (c ∷ []) 0 i (omega (arith, e, within))) ∙ p.is i e;
      others = (All-pop (λ c. c ≢ b) (drop last (bs ++ c ∷ [])) (drop last bs) (Some c) (drop-append-le last bs (c ∷ []) within) p.others).0;
    }

-- ---- one note more, and one less
buckets-more : (notes : List Note) (n : Note) → buckets (notes ++ n ∷ []) ≡ buckets notes ++ bucket n.suffix.now ∷ []
buckets-more notes n = map-append (λ (note : Note). bucket note.suffix.now) notes (n ∷ [])

befores-more : (notes : List Note) (n : Note) → befores (notes ++ n ∷ []) ≡ befores notes ++ n.before ∷ []
befores-more notes n = map-append (λ (note : Note). note.before) notes (n ∷ [])

length-buckets : (notes : List Note) → length (buckets notes) ≡ length notes
length-buckets notes = length-map notes (λ (note : Note). bucket note.suffix.now)

length-befores : (notes : List Note) → length (befores notes) ≡ length notes
length-befores notes = length-map notes (λ (note : Note). note.before)

-- what the notes before n lead to is as it was
module _ (notes : List Note) (n : Note) where
  earlier_bucket : (i : ℕ) → i < length notes → get_or (buckets (notes ++ n ∷ [])) i 0 ≡ get_or (buckets notes) i 0
  earlier_bucket i lt = ap (λ bs. get_or bs i 0) (buckets-more notes n) ∙ get_or_append_left (buckets notes) (bucket n.suffix.now ∷ []) 0 i (omega (arith, lt, length-buckets notes))

  earlier_before : (i : ℕ) → i < length notes → get_or (befores (notes ++ n ∷ [])) i 0 ≡ get_or (befores notes) i 0
  earlier_before i lt = ap (λ bs. get_or bs i 0) (befores-more notes n) ∙ get_or_append_left (befores notes) (n.before ∷ []) 0 i (omega (arith, lt, length-befores notes))

  earlier_front : (i : ℕ) → i ≤ length notes → take i (buckets (notes ++ n ∷ [])) ≡ take i (buckets notes)
  earlier_front i le = ap (λ bs. take i bs) (buckets-more notes n) ∙ take-append-le i (buckets notes) (bucket n.suffix.now ∷ []) (omega (arith, le, length-buckets notes))

  this_bucket : get_or (buckets (notes ++ n ∷ [])) (length notes) 0 ≡ bucket n.suffix.now
  this_bucket =
      let at : length notes ≡ length (buckets notes) + 0 = omega (arith, length-buckets notes) in
      ap (λ bs. get_or bs (length notes) 0) (buckets-more notes n) ∙ ap (λ i. get_or (buckets notes ++ bucket n.suffix.now ∷ []) i 0) at ∙ get_or-append-add (buckets notes) (bucket n.suffix.now ∷ []) 0 0

  this_before : get_or (befores (notes ++ n ∷ [])) (length notes) 0 ≡ n.before
  this_before =
      let at : length notes ≡ length (befores notes) + 0 = omega (arith, length-befores notes) in
      ap (λ bs. get_or bs (length notes) 0) (befores-more notes n) ∙ ap (λ i. get_or (befores notes ++ n.before ∷ []) i 0) at ∙ get_or-append-add (befores notes) (n.before ∷ []) 0 0

  this_front : take (length notes) (buckets (notes ++ n ∷ [])) ≡ buckets notes
  this_front = earlier_front (length notes) (omega arith) ∙ take_all (length notes) (buckets notes) (omega (arith, length-buckets notes))

  module _ (lasts : List ℕ) (b_small : bucket n.suffix.now < 1024) where
    last_pushed : AreLinked notes lasts → (b : ℕ) → b < 1024 → IsLast b (buckets (notes ++ n ∷ [])) (get_or (set lasts (bucket n.suffix.now) (length notes + 1)) b 0)
    last_pushed h b small = elim (cases_eq b (bucket n.suffix.now)) [
      | inl e ↦
          let is : get_or (set lasts (bucket n.suffix.now) (length notes + 1)) b 0 ≡ length (buckets notes) + 1 = ap (λ c. get_or (set lasts (bucket n.suffix.now) (length notes + 1)) c 0) e ∙ get_or-set_same lasts (bucket n.suffix.now) (length notes + 1) 0 (omega (arith, h.each, b_small)) ∙ ap (λ l. l + 1) (sym (length-buckets notes)) in
          rw (is, buckets-more notes n, e) (last_here (bucket n.suffix.now) (buckets notes))
      | inr ne ↦
          rw (get_or-set_other lasts (bucket n.suffix.now) b (length notes + 1) 0 ne, buckets-more notes n)
          (last_elsewhere b (bucket n.suffix.now) (buckets notes) (get_or lasts b 0) (λ e. ne (sym e)) (h.last b small))
    ]

    before_pushed : AreLinked notes lasts → n.before ≡ get_or lasts (bucket n.suffix.now) 0 → (i : ℕ) → i < length (notes ++ n ∷ []) → IsLast (get_or (buckets (notes ++ n ∷ [])) i 0) (take i (buckets (notes ++ n ∷ []))) (get_or (befores (notes ++ n ∷ [])) i 0)
    before_pushed h e i lt = elim (cases_lt i (length notes)) [
      | inl below ↦ rw (earlier_bucket i below, earlier_before i below, earlier_front i (omega (arith, below))) (h.before i below)
      | inr above ↦
          let at : i ≡ length notes = omega (arith, above, lt, length-append notes (n ∷ [])) in
          rw (at, this_bucket, this_before, this_front, e) (h.last (bucket n.suffix.now) b_small)
    ]

    pub AreLinked-push : AreLinked notes lasts → n.before ≡ get_or lasts (bucket n.suffix.now) 0 → AreLinked (notes ++ n ∷ []) (set lasts (bucket n.suffix.now) (length notes + 1))
    AreLinked-push h e = record {
      each = length-set lasts (bucket n.suffix.now) (length notes + 1) ∙ h.each;
      last = last_pushed h;
      before = before_pushed h e;
    }

    last_popped : AreLinked (notes ++ n ∷ []) lasts → (b : ℕ) → b < 1024 → IsLast b (buckets notes) (get_or (set lasts (bucket n.suffix.now) n.before) b 0)
    last_popped h b small = elim (cases_eq b (bucket n.suffix.now)) [
      | inl e ↦
          let is : get_or (set lasts (bucket n.suffix.now) n.before) b 0 ≡ n.before = ap (λ c. get_or (set lasts (bucket n.suffix.now) n.before) c 0) e ∙ get_or-set_same lasts (bucket n.suffix.now) n.before 0 (omega (arith, h.each, b_small)) in
          let before = h.before (length notes) (omega (arith, length-append notes (n ∷ []))) in
          subst (λ l. IsLast b (buckets notes) l) (sym is) (subst (λ c. IsLast c (buckets notes) n.before) (sym e) (rw (this_bucket, this_before, this_front) at before))
      | inr ne ↦
          let last : IsLast b (buckets notes ++ bucket n.suffix.now ∷ []) (get_or lasts b 0) = subst (λ bs. IsLast b bs (get_or lasts b 0)) (buckets-more notes n) (h.last b small) in
          rw (get_or-set_other lasts (bucket n.suffix.now) b n.before 0 ne) (last_before b (bucket n.suffix.now) (buckets notes) (get_or lasts b 0) (λ e. ne (sym e)) last)
    ]

    before_popped : AreLinked (notes ++ n ∷ []) lasts → (i : ℕ) → i < length notes → IsLast (get_or (buckets notes) i 0) (take i (buckets notes)) (get_or (befores notes) i 0)
    before_popped h i lt =
        let before = h.before i (omega (arith, lt, length-append notes (n ∷ []))) in
        rw (earlier_bucket i lt, earlier_before i lt, earlier_front i (omega (arith, lt))) at before

    pub AreLinked-pop : AreLinked (notes ++ n ∷ []) lasts → AreLinked notes (set lasts (bucket n.suffix.now) n.before)
    AreLinked-pop h = record {
      each = length-set lasts (bucket n.suffix.now) n.before ∙ h.each;
      last = last_popped h;
      before = before_popped h;
    }

pub AreLinked-none : AreLinked [] (replicate 1024 0)
AreLinked-none = record {
  each = length-replicate 1024 zero;
  last = λ b small. subst (λ last. IsLast b [] last) (sym (get_or-replicate 1024 b zero zero small)) (last_of_none b);
  before = λ i lt. absurd (omega (arith, lt));
}

-- ---- a suffix is searched from the last note of its bucket on
same_bucket : (s k : List ℕ) → bucket k ≢ bucket s → bytes_eq s k ≡ false
same_bucket s k ne = false_from_ne_true (bytes_eq s k) (λ t. ne (ap bucket (sym ((bytes_eq-Decides s k).0 t))))

none_elsewhere : (s : List ℕ) (notes : List Note) → All (λ b. b ≢ bucket s) (buckets notes) → first_place s (pairs notes) ≡ None
none_elsewhere s [] h = refl
none_elsewhere s (n ∷ ns) h =
    cond-false (bytes_eq s n.suffix.now) (Some n.place) (first_place s (pairs ns)) (same_bucket s n.suffix.now (All-head (λ b. b ≢ bucket s) (bucket n.suffix.now) (buckets ns) h))
    ∙ none_elsewhere s ns (All-tail (λ b. b ≢ bucket s) (bucket n.suffix.now) (buckets ns) h)

only_front : (s : List ℕ) (notes : List Note) (last : ℕ) → All (λ b. b ≢ bucket s) (drop last (buckets notes)) → first_place s (pairs notes) ≡ first_place s (pairs (take last notes))
only_front s notes last h =
    let none = none_elsewhere s (drop last notes) (subst (λ bs. All (λ b. b ≢ bucket s) bs) (drop-map (λ (note : Note). bucket note.suffix.now) last notes) h) in
    ap (λ ns. first_place s (pairs ns)) (sym (take-append-drop last notes)) ∙ ap (λ ps. first_place s ps) (map-append pair (take last notes) (drop last notes))
    ∙ first_place-before s (pairs (take last notes)) (pairs (drop last notes)) none

-- The suffix is not among the notes behind the first so many, of which the last one is of its bucket.
pub record IsIn (s : List ℕ) (notes : List Note) (last : ℕ) : Type 0 where
  pub within : last ≤ length notes
  pub in_bucket : (i : ℕ) → last ≡ suc i → get_or (buckets notes) i 0 ≡ bucket s
  pub same : first_place s (pairs notes) ≡ first_place s (pairs (take last notes))

pub IsIn-first : (s : List ℕ) (notes : List Note) (last : ℕ) → IsLast (bucket s) (buckets notes) last → IsIn s notes last
IsIn-first s notes last h = record {
  within = omega (arith, h.within, length-buckets notes);
  in_bucket = h.is;
  same = only_front s notes last h.others;
}

module _ (s : List ℕ) (notes : List Note) (lasts : List ℕ) (i : ℕ) (n : Note) (lt : i < length notes) (is : get_or notes i n ≡ n) where
  named : get_or (befores notes) i 0 ≡ n.before
  named = get_or-map (λ (note : Note). note.before) notes i n 0 lt ∙ ap (λ (note : Note). note.before) is

  pub IsIn-next : AreLinked notes lasts → IsIn s notes (i + 1) → bytes_eq n.suffix.now s ≡ false → IsIn s notes n.before
  IsIn-next linked h ne =
      let from : IsLast (bucket s) (take i (buckets notes)) n.before = subst (λ b. IsLast b (take i (buckets notes)) n.before) (h.in_bucket i (omega arith)) (subst (λ last. IsLast (get_or (buckets notes) i 0) (take i (buckets notes)) last) named (linked.before i lt)) in
      let short : n.before ≤ i = omega (arith, from.within, length-take i (buckets notes)) in
      let from' : IsLast (bucket s) (buckets (take i notes)) n.before = subst (λ bs. IsLast (bucket s) bs n.before) (take-map (λ (note : Note). bucket note.suffix.now) i notes) from in
      record {
        within = omega (arith, short, lt);
        in_bucket = λ j e. sym (get_or-take i (buckets notes) j 0 (omega (arith, e, short))) ∙ from.is j e;
        same =
            h.same ∙ ap (λ ps. first_place s ps) (pairs-more notes i n lt is) ∙ first_place-other s (pairs (take i notes)) (pair n) (flipped_false n.suffix.now s ne)
            ∙ only_front s (take i notes) n.before from'.others ∙ ap (λ ns. first_place s (pairs ns)) (take-take n.before i notes short);
      }

  pub before_less : AreLinked notes lasts → n.before ≤ i
  before_less linked = omega (arith, (linked.before i lt).within, length-take i (buckets notes), named)

  pub found_linked : AreApart (pairs notes) → bytes_eq n.suffix.now s ≡ true → Some n.place ≡ first_place s (pairs notes)
  found_linked apart e =
      let none : first_place s (pairs (take i notes)) ≡ None = ap (λ t. first_place t (pairs (take i notes))) (sym ((bytes_eq-Decides n.suffix.now s).0 e)) ∙ fresh_at notes i n lt is apart in
      found_at notes i n lt is s none e
