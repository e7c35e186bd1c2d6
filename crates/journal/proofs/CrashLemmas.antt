-- What a crash may leave, step by step.
use Rattle.std.proofs.Common.{◌≡◌, ◌⊎◌, ◌+◌, ◌-◌, ◌<◌, ◌≤◌, ℕ, suc, zero, min, max, List, [], ◌∷◌, length, slice_index, refl, sym, ◌∙◌, ap, inl, inr, arith}
use Rattle.std.proofs.lemmas.Bool.{cases_lt}
use Rattle.std.proofs.lemmas.List.{ext_get_or}
use Rattle.sqlite_disk.specs.Disk.{Torn, Cut}
use Rattle.sqlite_disk.specs.Events.{overlaid, padded}
use Rattle.sqlite_disk.proofs.EventLemmas.{Torn-overlaid, Cut-padded}
use Rattle.journal.specs.host_file.Crashes.{Range, IsOutside, IsAlike, MayLeave}

-- the list of these numbers, so many
tabled : (ℕ → ℕ) → ℕ → List ℕ
tabled f zero = []
tabled f (suc n) = f 0 ∷ tabled (λ i. f (suc i)) n

length-tabled : (f : ℕ → ℕ) (n : ℕ) → length (tabled f n) ≡ n
unfolding tabled
length-tabled f zero = refl
length-tabled f (suc n) = ap suc (length-tabled (λ i. f (suc i)) n)

at-tabled : (f : ℕ → ℕ) (n i : ℕ) → i < n → slice_index (tabled f n) i ≡ f i
unfolding tabled
at-tabled f zero i low = absurd (omega arith)
at-tabled f (suc n) zero low = refl
at-tabled f (suc n) (suc i) low = at-tabled (λ k. f (suc k)) n i (omega arith)

abbrev pick : {P Q : Type 0} → P ⊎ Q → ℕ → ℕ → ℕ
pick (inl p) x y = x
pick (inr q) x y = y

first_picked : {P Q : Type 0} (s : P ⊎ Q) (x y : ℕ) → (Q → ⊥) → pick s x y ≡ x
first_picked (inl p) x y not = refl
first_picked (inr q) x y not = absurd (not q)

second_picked : {P Q : Type 0} (s : P ⊎ Q) (x y : ℕ) → (P → ⊥) → pick s x y ≡ y
second_picked (inl p) x y not = absurd (not p)
second_picked (inr q) x y not = refl

pub Torn-refl : (at n : ℕ) (file : List ℕ) → Torn at n file file
Torn-refl at n file = record { no_shorter = omega arith; no_longer = omega arith; below = λ _ _ _. refl; above = λ _ _ _. refl }

pub Cut-refl : (n : ℕ) (file : List ℕ) → Cut n file file
Cut-refl n file = record { no_shorter = omega arith; no_longer = omega arith; below = λ _ _ _. refl }

module _ (kept most : ℕ) (ranges : List Range) (file : List ℕ) (low : kept ≤ length file) (high : length file ≤ most) where
  -- what a crash leaves after a write is torn of what it left before, and the other way round
  module _ (at : ℕ) (bytes : List ℕ) (c : List ℕ) where
    abbrev before_write : ℕ → ℕ
    before_write i = pick (cases_lt i at) (slice_index c i) (pick (cases_lt i (at + length bytes)) (slice_index file i) (slice_index c i))

    left_before_write : IsAlike kept (max most (at + length bytes)) ((at, length bytes) ∷ ranges) (overlaid file at bytes) c → (d : List ℕ) × MayLeave kept most ranges file d × Torn at (length bytes) d c
    left_before_write a =
        let torn = Torn-overlaid file at bytes in
        let d : List ℕ = tabled before_write (min (length c) most) in
        let size : length (tabled before_write (min (length c) most)) ≡ min (length c) most = length-tabled before_write (min (length c) most) in
        let far = a.no_longer in
        let long = a.no_shorter in
        let under : (i : ℕ) → i < min (length c) most → i < at → slice_index (tabled before_write (min (length c) most)) i ≡ slice_index c i
        = λ i there less. at-tabled before_write (min (length c) most) i there ∙ first_picked (cases_lt i at) _ _ (λ more. absurd (omega arith)) in
        let over : (i : ℕ) → i < min (length c) most → at + length bytes ≤ i → slice_index (tabled before_write (min (length c) most)) i ≡ slice_index c i
        = λ i there more. at-tabled before_write (min (length c) most) i there
        ∙ second_picked (cases_lt i at) _ _ (λ less. absurd (omega arith)) ∙ second_picked (cases_lt i (at + length bytes)) _ _ (λ less. absurd (omega arith)) in
        let within : (i : ℕ) → i < min (length c) most → at ≤ i → i < at + length bytes → slice_index (tabled before_write (min (length c) most)) i ≡ slice_index file i
        = λ i there more less. at-tabled before_write (min (length c) most) i there
        ∙ second_picked (cases_lt i at) _ _ (λ other. absurd (omega arith)) ∙ first_picked (cases_lt i (at + length bytes)) _ _ (λ other. absurd (omega arith)) in (
          d,
          inr record {
            no_shorter = omega (arith, size);
            no_longer = omega (arith, size);
            alike = λ i less outside. elim (cases_lt i at) [
              | inl under_it ↦ under i (omega arith) under_it ∙ a.alike i less (inl under_it, outside) ∙ torn.below i (omega arith) under_it
              | inr not_under ↦ elim (cases_lt i (at + length bytes)) [
                | inl inside ↦ within i (omega arith) not_under inside
                | inr over_it ↦ over i (omega arith) over_it ∙ a.alike i less (inr over_it, outside) ∙ torn.above i (omega arith) over_it
              ]
            ];
          },
          record {
            no_shorter = omega (arith, size);
            no_longer = omega (arith, size);
            below = λ i there less. sym (under i (omega (arith, size)) less);
            above = λ i there more. sym (over i (omega (arith, size)) more);
          },
        )

    pub before_written : MayLeave kept (max most (at + length bytes)) ((at, length bytes) ∷ ranges) (overlaid file at bytes) c → (d : List ℕ) × MayLeave kept most ranges file d × Torn at (length bytes) d c
    before_written (inl same) = (file, inl refl, rw same (Torn-overlaid file at bytes))
    before_written (inr a) = left_before_write a

    pub behind_written : (d : List ℕ) → MayLeave kept most ranges file d → Torn at (length bytes) d c → MayLeave kept (max most (at + length bytes)) ((at, length bytes) ∷ ranges) (overlaid file at bytes) c
    behind_written d left tear =
        let torn = Torn-overlaid file at bytes in
        let bounds : (kept ≤ length d) × (length d ≤ most) = elim left [ inl same ↦ rw same (low, high) | inr a ↦ (a.no_shorter, a.no_longer) ] in
        let old : (i : ℕ) → i < kept → IsOutside ranges i → slice_index d i ≡ slice_index file i = elim left [ inl same ↦ rw same (λ _ _ _. refl) | inr a ↦ a.alike ] in
        let first = bounds.0 in
        let second = bounds.1 in
        let longer = tear.no_shorter in
        let shorter = tear.no_longer in
        inr record {
          no_shorter = omega arith;
          no_longer = omega arith;
          alike = λ i less outside. elim outside.0 [
            | inl under ↦ tear.below i (omega arith) under ∙ old i less outside.1 ∙ sym (torn.below i (omega arith) under)
            | inr over ↦ tear.above i (omega arith) over ∙ old i less outside.1 ∙ sym (torn.above i (omega arith) over)
          ];
        }

  -- the same of a change of the length
  module _ (len : ℕ) (c : List ℕ) where
    abbrev before_cut : ℕ → ℕ
    before_cut i = pick (cases_lt i len) (slice_index c i) (slice_index file i)

    left_before_cut : IsAlike (min kept len) (max most len) ranges (padded file len) c → (d : List ℕ) × MayLeave kept most ranges file d × Cut len d c
    left_before_cut a =
        let cut = Cut-padded file len in
        let size : length (tabled before_cut (max kept (min (length c) most))) ≡ max kept (min (length c) most) = length-tabled before_cut (max kept (min (length c) most)) in
        let far = a.no_longer in
        let long = a.no_shorter in
        let under : (i : ℕ) → i < max kept (min (length c) most) → i < len → slice_index (tabled before_cut (max kept (min (length c) most))) i ≡ slice_index c i
        = λ i there less. at-tabled before_cut (max kept (min (length c) most)) i there ∙ first_picked (cases_lt i len) _ _ (λ more. absurd (omega arith)) in
        let over : (i : ℕ) → i < max kept (min (length c) most) → len ≤ i → slice_index (tabled before_cut (max kept (min (length c) most))) i ≡ slice_index file i
        = λ i there more. at-tabled before_cut (max kept (min (length c) most)) i there ∙ second_picked (cases_lt i len) _ _ (λ less. absurd (omega arith)) in (
          tabled before_cut (max kept (min (length c) most)),
          inr record {
            no_shorter = omega (arith, size);
            no_longer = omega (arith, size);
            alike = λ i less outside. elim (cases_lt i len) [
              | inl short ↦ under i (omega arith) short ∙ a.alike i (omega arith) outside ∙ cut.below i (omega arith) short
              | inr past ↦ over i (omega arith) past
            ];
          },
          record {
            no_shorter = omega (arith, size);
            no_longer = omega (arith, size);
            below = λ i there less. sym (under i (omega (arith, size)) less);
          },
        )

    pub before_resized : MayLeave (min kept len) (max most len) ranges (padded file len) c → (d : List ℕ) × MayLeave kept most ranges file d × Cut len d c
    before_resized (inl same) = (file, inl refl, rw same (Cut-padded file len))
    before_resized (inr a) = left_before_cut a

    pub behind_resized : (d : List ℕ) → MayLeave kept most ranges file d → Cut len d c → MayLeave (min kept len) (max most len) ranges (padded file len) c
    behind_resized d left shear =
        let cut = Cut-padded file len in
        let bounds : (kept ≤ length d) × (length d ≤ most) = elim left [ inl same ↦ rw same (low, high) | inr a ↦ (a.no_shorter, a.no_longer) ] in
        let old : (i : ℕ) → i < kept → IsOutside ranges i → slice_index d i ≡ slice_index file i = elim left [ inl same ↦ rw same (λ _ _ _. refl) | inr a ↦ a.alike ] in
        let first = bounds.0 in
        let second = bounds.1 in
        let longer = shear.no_shorter in
        let shorter = shear.no_longer in
        inr record {
          no_shorter = omega arith;
          no_longer = omega arith;
          alike = λ i less outside. shear.below i (omega arith) (omega arith) ∙ old i (omega arith) outside ∙ sym (cut.below i (omega arith) (omega arith));
        }

-- behind a sync a crash leaves what the file holds
pub only_seen : (file c : List ℕ) → MayLeave (length file) (length file) [] file c → c ≡ file
only_seen file c (inl same) = same
only_seen file c (inr a) =
    let long = a.no_shorter in
    let short = a.no_longer in
    ext_get_or 0 c file (omega arith) (λ i there. a.alike i (omega arith) tt)
