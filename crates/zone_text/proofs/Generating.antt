-- Records for the numbers of a range.
use Rattle.std.proofs.Common.{◌≡◌, inl, inr, ℕ, ◌+◌, ◌*◌, ◌<◌, ◌≤◌, List, [], ◌∷◌, ◌++◌, length, length-append, mul-le-mul_right, add-mul, sym, subst, arith}
use Rattle.std.proofs.lemmas.Bool.{cases_eq, cases_lt}
use Rattle.wire_messages.specs.declared.rr.rdata.RData.{RData}
use Rattle.wire_messages.specs.declared.rr.record.Record.{Record}
use Rattle.zone_text.specs.declared.zone_file.number_range.NumberRange.{NumberRange}
use Rattle.zone_text.specs.Numbered.{Reaches}
use Rattle.zone_text.specs.ZoneFiles.{AreEach}
use Rattle.zone_text.specs.ZoneFiles.AreEach.{none, more}

module _ (Is : ℕ → Record RData → Type 0) where
  pub one_more : (old new : List (Record RData)) (r : Record RData) → new ≡ old ++ r ∷ [] → AreEach Is (length old) old → Is (length old) r → AreEach Is (length new) new
  one_more old new r e each is = subst (λ (l : List (Record RData)). AreEach Is (length l) l) (sym e) (subst (λ (n : ℕ). AreEach Is n (old ++ r ∷ [])) (sym (length-append old (r ∷ []))) (more each is))

  pub each_of : (count k : ℕ) (records : List (Record RData)) → AreEach Is count records → k < count → (r : Record RData) × Is k r
  each_of count k records none less = absurd (omega (arith, less))
  each_of count k records (more {count = before} {records = front} {r = r} h is) less = elim (cases_eq k before) [
    | inl e ↦ (r, subst (λ (n : ℕ). Is n r) (sym e) is)
    | inr other ↦ each_of before k front h (omega (arith, less, other))
  ]

mono : (i j s : ℕ) → i ≤ j → i * s ≤ j * s
mono i j s le = mul-le-mul_right s le

pub next_number : (first step n : ℕ) → first + n * step + step ≡ first + (n + 1) * step
next_number first step n = omega (arith, add-mul n 1 step)

-- one number more
pub below_more : (first step last n m : ℕ) → m ≡ n + 1 → first + n * step ≤ last → ((k : ℕ) → k < n → first + k * step ≤ last) → (k : ℕ) → k < m → first + k * step ≤ last
below_more first step last n m is here before k less = elim (cases_eq k n) [
  | inl e ↦ subst (λ (i : ℕ). first + i * step ≤ last) (sym e) here
  | inr other ↦ before k (omega (arith, less, other, is))
]

pub all_reached : (range : NumberRange) (count : ℕ) → range.last < range.first + count * range.step → ((k : ℕ) → k < count → range.first + k * range.step ≤ range.last) → Reaches range count
all_reached range count over below k = (below k, λ within. elim (cases_lt k count) [ inl less ↦ less | inr on ↦ absurd (omega (arith, within, over, mono count k range.step on)) ])
