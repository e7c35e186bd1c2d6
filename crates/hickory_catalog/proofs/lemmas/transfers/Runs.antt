-- Records in runs: how they follow from counted lengths, and that there is one way.
use Rattle.std.proofs.Common.{◌≡◌, ◌⊎◌, inl, inr, ℕ, suc, zero, ◌+◌, ◌-◌, ◌<◌, ◌≤◌, Bool, true, false, if◌then◌else◌, nat_le, List, [], ◌∷◌, ◌++◌, length, take, drop, refl, sym, ap, subst, ◌∙◌, arith}
use Rattle.std.specs.List.{AllByRecursion, sum_by, flat_map}
use Rattle.std.proofs.lemmas.List.{length-take-le, length-drop, take-append-drop, take_all}
use Rattle.std.proofs.lemmas.List.Sums.{sum_by-cons, sum_by-take-drop}
use Rattle.std.proofs.lemmas.List.Concat.{flat_map-cons}
use Rattle.std.proofs.lemmas.Bool.Decides.{leb_tells}
use Rattle.hickory_catalog.specs.representation.Runs.{IsRoom, IsRunLength}
use Rattle.hickory_catalog.specs.transfers.Transfers.{AreRuns, full, last, message_size}
use Rattle.wire_messages.specs.serialize.writing.RecordSize.{full_size}
use Rattle.wire_messages.specs.declared.rr.rdata.RData.{RData}
use Rattle.wire_messages.specs.declared.rr.record.Record.{Record}

-- records with no size are none
sizeless : (records : List (Record RData)) → sum_by full_size records ≤ 0 → length records ≤ 1
sizeless [] none = omega arith
sizeless (r ∷ rs) none = absurd (omega (arith, none, sum_by-cons full_size r rs))

taken_size-none : (n : ℕ) → sum_by full_size (take n []) ≡ 0
taken_size-none zero = refl
taken_size-none (suc n) = refl

-- fewer records have no larger size
taken_size-le : (records : List (Record RData)) (few many : ℕ) → few ≤ many → sum_by full_size (take few records) ≤ sum_by full_size (take many records)
taken_size-le [] few many le =
    omega (arith, taken_size-none few, taken_size-none many)
taken_size-le (r ∷ rs) zero many le = omega arith
taken_size-le (r ∷ rs) (suc few) zero le = absurd (omega (arith, le))
taken_size-le (r ∷ rs) (suc few) (suc many) le =
    omega (arith, taken_size-le rs few many (omega (arith, le)), sum_by-cons full_size r (take few rs), sum_by-cons full_size r (take many rs))

-- the whole is a front of itself
whole_size-le : (records : List (Record RData)) (few : ℕ) → sum_by full_size (take few records) ≤ sum_by full_size records
whole_size-le records few = omega (arith, sum_by-take-drop full_size records few)

module _ (front room : ℕ) (is_room : IsRoom front room) (records : List (Record RData)) (len : ℕ) (counted : IsRunLength room records len) where
  -- what was counted fits a message, or is one record
  pub run_fits : (message_size front (take len records) ≤ 65535) ⊎ (len ≤ 1)
  run_fits = by_count counted.fits where
    by_room : sum_by full_size (take len records) ≤ room → (front ≤ 65535) ⊎ (65535 < front) → (message_size front (take len records) ≤ 65535) ⊎ (len ≤ 1)
    by_room small (inl le) = inl (omega (arith, small, is_room.left le))
    by_room small (inr lt) =
        let n : length (take len records) ≡ len = length-take-le len records counted.within in
        let m : length (take len records) ≤ 1 = sizeless (take len records) (omega (arith, small, is_room.none lt)) in
        inr (omega (arith, n, m))

    by_count : (sum_by full_size (take len records) ≤ room) ⊎ (len ≤ 1) → (message_size front (take len records) ≤ 65535) ⊎ (len ≤ 1)
    by_count (inl small) = by_room small (which (leb_tells front 65535)) where
      which : ((nat_le front 65535 ≡ true) × (front ≤ 65535)) ⊎ ((nat_le front 65535 ≡ false) × (65535 < front)) → (front ≤ 65535) ⊎ (65535 < front)
      which (inl t) = inl t.1
      which (inr t) = inr t.1
    by_count (inr one) = inr one

  -- with the next record it does not fit
  pub run_full : len < length records → 65535 < message_size front (take (len + 1) records)
  run_full lt = which (leb_tells front 65535) where
    which : ((nat_le front 65535 ≡ true) × (front ≤ 65535)) ⊎ ((nat_le front 65535 ≡ false) × (65535 < front)) → 65535 < message_size front (take (len + 1) records)
    which (inl t) = omega (arith, is_room.left t.1, counted.full lt)
    which (inr t) = omega (arith, t.1)

  -- a run of counted records, and runs of those behind it
  pub run_first : (runs : List (List (Record RData))) → len < length records → AreRuns front (drop len records) runs → AreRuns front records (take len records ∷ runs)
  run_first runs lt behind = full len (counted.some (omega (arith, lt))) lt run_fits (run_full lt) behind

  -- the last run
  pub run_last : length records ≤ len → AreRuns front records (records ∷ [])
  run_last le = last (short run_fits) where
    short : (message_size front (take len records) ≤ 65535) ⊎ (len ≤ 1) → (message_size front records ≤ 65535) ⊎ (length records ≤ 1)
    short (inl small) = inl (let whole : take len records ≡ records = take_all len records le in rw whole at small)
    short (inr one) = inr (omega (arith, le, one))

-- the answers one after the other
pub runs_joined : (front : ℕ) (records : List (Record RData)) (runs : List (List (Record RData))) → AreRuns front records runs → flat_map (λ run. run) runs ≡ records
runs_joined front records _ (last fits) = flat_map-cons (λ run. run) records [] ∙ append_none records where
  append_none : (xs : List (Record RData)) → xs ++ [] ≡ xs
  append_none [] = refl
  append_none (x ∷ xs) = ap (λ ys. x ∷ ys) (append_none xs)
runs_joined front records _ (full {runs = runs} len some lt fits next behind) =
    flat_map-cons (λ run. run) (take len records) runs ∙ ap (λ xs. take len records ++ xs) (runs_joined front (drop len records) runs behind) ∙ take-append-drop len records

-- each run fits a message, or is one record
pub run_by_run : (front : ℕ) (records : List (Record RData)) (runs : List (List (Record RData))) → AreRuns front records runs
    → AllByRecursion (λ run. (message_size front run ≤ 65535) ⊎ (length run ≤ 1)) runs
run_by_run front records _ (last fits) = (fits, tt)
run_by_run front records _ (full {runs = runs} len some lt fits next behind) = (one_of fits, run_by_run front (drop len records) runs behind) where
  one_of : (message_size front (take len records) ≤ 65535) ⊎ (len ≤ 1) → (message_size front (take len records) ≤ 65535) ⊎ (length (take len records) ≤ 1)
  one_of (inl small) = inl small
  one_of (inr one) = inr (omega (arith, length-take-le len records (omega (arith, lt)), one))

-- a shorter first run leaves a longer one no room
module _ (front : ℕ) (records : List (Record RData)) (short long : ℕ) where
  too_long : 1 ≤ short → short < long → 65535 < message_size front (take (short + 1) records) → (message_size front (take long records) ≤ 65535) ⊎ (long ≤ 1) → ⊥
  too_long some lt next (inl small) = omega (arith, small, next, taken_size-le records (short + 1) long (omega (arith, lt)))
  too_long some lt next (inr one) = omega (arith, some, lt, one)

-- not all is left where a first run is full
not_last : (front : ℕ) (records : List (Record RData)) (len : ℕ) → 1 ≤ len → len < length records → 65535 < message_size front (take (len + 1) records)
    → (message_size front records ≤ 65535) ⊎ (length records ≤ 1) → ⊥
not_last front records len some lt next (inl small) = omega (arith, small, next, whole_size-le records (len + 1))
not_last front records len some lt next (inr one) = omega (arith, some, lt, one)

-- two numbers are the same, or one is less
order : (m n : ℕ) → (m ≡ n) ⊎ ((m < n) ⊎ (n < m))
order m n = low (leb_tells m n) (leb_tells n m) where
  low : ((nat_le m n ≡ true) × (m ≤ n)) ⊎ ((nat_le m n ≡ false) × (n < m)) → ((nat_le n m ≡ true) × (n ≤ m)) ⊎ ((nat_le n m ≡ false) × (m < n)) → (m ≡ n) ⊎ ((m < n) ⊎ (n < m))
  low (inl s) (inl t) = inl (omega (arith, s.1, t.1))
  low (inl s) (inr t) = inr (inl t.1)
  low (inr s) t = inr (inr s.1)

-- there is one way
pub runs_once : (front : ℕ) (records : List (Record RData)) (one other : List (List (Record RData))) → AreRuns front records one → AreRuns front records other → one ≡ other
runs_once front records _ _ (last fits) (last also) = refl
runs_once front records _ _ (last fits) (full len some lt fit next behind) = absurd (not_last front records len some lt next fits)
runs_once front records _ _ (full len some lt fit next behind) (last fits) = absurd (not_last front records len some lt next fits)
runs_once front records _ _ (full {runs = runs} m some lt fit next behind) (full {runs = rest} n any less fits over others) =
    which (order m n) (λ moved. runs_once front (drop m records) runs rest behind moved) where
      which : (m ≡ n) ⊎ ((m < n) ⊎ (n < m)) → (AreRuns front (drop m records) rest → runs ≡ rest) → take m records ∷ runs ≡ take n records ∷ rest
      which (inl same) once =
          let moved : AreRuns front (drop m records) rest = subst (λ (i : ℕ). AreRuns front (drop i records) rest) (sym same) others in
          ap (λ (i : ℕ). take i records ∷ runs) same ∙ ap (λ (xs : List (List (Record RData))). take n records ∷ xs) (once moved)
      which (inr (inl shorter)) once = absurd (too_long front records m n some shorter next fits)
      which (inr (inr longer)) once = absurd (too_long front records n m any longer over fit)

-- how many records fit so much room
abbrev fitting : ℕ → List (Record RData) → ℕ
fitting room [] = 0
fitting room (r ∷ rs) = if nat_le (full_size r) room then suc (fitting (room - full_size r) rs) else 0

-- So many records fit so much room, and with the next one they do not.
abbrev AreAsManyAsFit : ℕ → List (Record RData) → ℕ → Type 0
AreAsManyAsFit room records n = (n ≤ length records) × (sum_by full_size (take n records) ≤ room) × (n < length records → room < sum_by full_size (take (n + 1) records))

one_more : (room n : ℕ) (r : Record RData) (rs : List (Record RData)) → full_size r ≤ room → AreAsManyAsFit (room - full_size r) rs n → AreAsManyAsFit room (r ∷ rs) (suc n)
one_more room n r rs le rest =
    let place : suc n + 1 ≡ suc (n + 1) = omega arith in
    let size : sum_by full_size (take (suc n + 1) (r ∷ rs)) ≡ full_size r + sum_by full_size (take (n + 1) rs) =
    ap (λ (k : ℕ). sum_by full_size (take k (r ∷ rs))) place ∙ sum_by-cons full_size r (take (n + 1) rs) in (
      omega (arith, rest.0),
      omega (arith, rest.1, le, sum_by-cons full_size r (take n rs)),
      λ lt. omega (arith, rest.2 (omega (arith, lt)), le, size),
    )

no_more : (room : ℕ) (r : Record RData) (rs : List (Record RData)) → room < full_size r → AreAsManyAsFit room (r ∷ rs) 0
no_more room r rs gt = (omega arith, omega arith, λ lt. omega (arith, gt, sum_by-cons full_size r (take 0 rs)))

fitting_is : (room : ℕ) (records : List (Record RData)) → AreAsManyAsFit room records (fitting room records)
fitting_is room [] = (omega arith, omega arith, λ lt. absurd (omega (arith, lt)))
fitting_is room (r ∷ rs) = which (nat_le (full_size r) room) refl (leb_tells (full_size r) room) (fitting_is (room - full_size r) rs) where
  which : (b : Bool) → nat_le (full_size r) room ≡ b → ((nat_le (full_size r) room ≡ true) × (full_size r ≤ room)) ⊎ ((nat_le (full_size r) room ≡ false) × (room < full_size r))
      → AreAsManyAsFit (room - full_size r) rs (fitting (room - full_size r) rs)
      → AreAsManyAsFit room (r ∷ rs) (if b then suc (fitting (room - full_size r) rs) else 0)
  which true e (inl t) rest = one_more room _ r rs t.1 rest
  which true e (inr t) rest = absurd cc
  which false e (inl t) rest = absurd cc
  which false e (inr t) rest = no_more room r rs t.1

-- records as many as fit, and one at least
counted_fitting : (room : ℕ) (records : List (Record RData)) → (len : ℕ) × IsRunLength room records len
counted_fitting room [] = (0, record { within = omega arith; some = λ one. omega (arith, one); fits = inr (omega arith); full = λ lt. absurd (omega (arith, lt)) })
counted_fitting room (r ∷ rs) = which (fitting room (r ∷ rs)) (fitting_is room (r ∷ rs)) where
  which : (n : ℕ) → AreAsManyAsFit room (r ∷ rs) n → (len : ℕ) × IsRunLength room (r ∷ rs) len
  which zero are = (
    1,
    record {
      within = omega arith;
      some = λ one. omega arith;
      fits = inr (omega arith);
      full = λ lt. omega (arith, are.2 (omega arith), taken_size-le (r ∷ rs) 1 2 (omega arith));
    },
  )
  which (suc n) are = (suc n, record { within = are.0; some = λ one. omega arith; fits = inl are.1; full = are.2 })

-- there is a room
room_of : (front : ℕ) → (room : ℕ) × IsRoom front room
room_of front = which (leb_tells front 65535) where
  which : ((nat_le front 65535 ≡ true) × (front ≤ 65535)) ⊎ ((nat_le front 65535 ≡ false) × (65535 < front)) → (room : ℕ) × IsRoom front room
  which (inl t) = (65535 - front, record { left = λ le. omega (arith, le); none = λ lt. absurd (omega (arith, lt, t.1)) })
  which (inr t) = (0, record { left = λ le. absurd (omega (arith, le, t.1)); none = λ lt. refl })

-- there is a way
module _ (front room : ℕ) (is_room : IsRoom front room) where
  runs_within : (fuel : ℕ) (records : List (Record RData)) → length records ≤ fuel → (runs : List (List (Record RData))) × AreRuns front records runs
  runs_within zero records short = (records ∷ [], last (inr (omega (arith, short))))
  runs_within (suc fuel) records short = by_len (counted_fitting room records) (λ len lt some. runs_within fuel (drop len records) (omega (arith, short, lt, some, length-drop len records))) where
    by_len : (len : ℕ) × IsRunLength room records len → ((len : ℕ) → len < length records → 1 ≤ len → (runs : List (List (Record RData))) × AreRuns front (drop len records) runs)
        → (runs : List (List (Record RData))) × AreRuns front records runs
    by_len (len, counted) rest = which (leb_tells (length records) len) where
      which : ((nat_le (length records) len ≡ true) × (length records ≤ len)) ⊎ ((nat_le (length records) len ≡ false) × (len < length records)) → (runs : List (List (Record RData))) × AreRuns front records runs
      which (inl t) = (records ∷ [], run_last front room is_room records len counted t.1)
      which (inr t) = let behind = rest len t.1 (counted.some (omega (arith, t.1))) in (take len records ∷ behind.0, run_first front room is_room records len counted behind.0 t.1 behind.1)

pub runs_exist : (front : ℕ) (records : List (Record RData)) → (runs : List (List (Record RData))) × AreRuns front records runs
runs_exist front records = let room = room_of front in runs_within front room.0 room.1 (length records) records (omega arith)
