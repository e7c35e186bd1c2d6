-- Options that were taken from octets before, and those that are still taken.
use Rattle.std.proofs.Common.{◌≡◌, ℕ, zero, suc, ◌+◌, ◌-◌, ◌<◌, ◌≤◌, List, [], ◌∷◌, ◌++◌, length, take, drop, Option, Some, None, option_map, true, false, refl, sym, ap, ◌∙◌, append_assoc, arith, length-drop, length-append, cond}
use Rattle.std.proofs.lemmas.List.{append-nil}
use Rattle.wire_messages.specs.serialize.reading.OptionReading.{option_code, option_len, ends_early}
use Rattle.wire_messages.specs.serialize.reading.RecordReading.{options_within, options_of}
use Rattle.wire_messages.specs.declared.op.edns.EdnsOption.{EdnsOption}

-- options that were taken before those that are taken now
abbrev pub with_options : List EdnsOption → Option (List EdnsOption) → Option (List EdnsOption)
with_options front found = option_map (λ others. front ++ others) found

-- the option that stands at the front, and the octets behind it
abbrev pub front_option : List ℕ → EdnsOption
front_option octets = record { code = option_code octets; bytes = take (option_len octets) (drop 4 octets) }

abbrev pub behind_option : List ℕ → List ℕ
behind_option octets = drop (option_len octets) (drop 4 octets)

options_within-cons : (fuel : ℕ) (octets : List ℕ) → 0 < length octets → options_within (suc fuel) octets ≡ cond (ends_early octets) None (option_map (λ others. front_option octets ∷ others) (options_within fuel (behind_option octets)))
unfolding options_within
options_within-cons fuel [] lt = absurd (omega arith)
options_within-cons fuel (b ∷ bs) lt = refl

options_within-done : (fuel : ℕ) → options_within fuel [] ≡ Some []
unfolding options_within
options_within-done zero = refl
options_within-done (suc fuel) = refl

regroup : (front : List EdnsOption) (option : EdnsOption) (found : Option (List EdnsOption)) → with_options front (option_map (λ others. option ∷ others) found) ≡ with_options (front ++ option ∷ []) found
regroup front option None = refl
regroup front option (Some others) = ap (λ (options : List EdnsOption). Some options) (simp append_assoc)

one_more : (m fuel : ℕ) (octets : List ℕ) → m ≡ suc fuel → 0 < length octets → ends_early octets ≡ false
    → options_within m octets ≡ option_map (λ others. front_option octets ∷ others) (options_within fuel (behind_option octets))
one_more m fuel octets k lt whole = rw k (options_within-cons fuel octets lt ∙ rw whole refl)

cut_off : (m fuel : ℕ) (octets : List ℕ) → m ≡ suc fuel → 0 < length octets → ends_early octets ≡ true → options_within m octets ≡ None
cut_off m fuel octets k lt early = rw k (options_within-cons fuel octets lt ∙ rw early refl)

module _ (front : List EdnsOption) (n : ℕ) (rest : List ℕ) (total : Option (List EdnsOption)) (so_far : with_options front (options_within (n - length front) rest) ≡ total) (enough : length rest + length front ≤ n) where
  pub options_end_early : 0 < length rest → ends_early rest ≡ true → total ≡ None
  options_end_early lt early =
      let one = cut_off (n - length front) (n - length front - 1) rest (omega arith) lt early in
      sym so_far ∙ ap (with_options front) one

  pub options_go_on : 0 < length rest → ends_early rest ≡ false
      → with_options (front ++ front_option rest ∷ []) (options_within (n - length (front ++ front_option rest ∷ [])) (behind_option rest)) ≡ total
  options_go_on lt whole =
      let one = one_more (n - length front) (n - length front - 1) rest (omega arith) lt whole in
      let f : n - length (front ++ front_option rest ∷ []) ≡ n - length front - 1 = omega (arith, length-append front (front_option rest ∷ [])) in
      rw f (sym (regroup front (front_option rest) (options_within (n - length front - 1) (behind_option rest))) ∙ ap (with_options front) (sym one) ∙ so_far)

  pub options_still_fit : 0 < length rest → length (behind_option rest) + length (front ++ front_option rest ∷ []) ≤ n
  options_still_fit lt = omega (arith, length-append front (front_option rest ∷ []), length-drop (option_len rest) (drop 4 rest), length-drop 4 rest)

nothing_left : (front : List EdnsOption) (m : ℕ) (rest : List ℕ) → length rest ≡ 0 → with_options front (options_within m rest) ≡ Some front
nothing_left front m [] none = rw (options_within-done m) (ap (λ (options : List EdnsOption). Some options) (append-nil front))
nothing_left front m (b ∷ bs) none = absurd (omega arith)

-- the options are those that were collected, or none
pub collected : (front : List EdnsOption) (bytes rest : List ℕ) → with_options front (options_within (length bytes - length front) rest) ≡ options_within (length bytes) bytes → length rest ≡ 0 → front ≡ options_of bytes
unfolding options_of
collected front bytes rest so_far none =
    let e : Some front ≡ options_within (length bytes) bytes = sym (nothing_left front (length bytes - length front) rest none) ∙ so_far in
    rw (← e) refl

pub malformed : (bytes : List ℕ) → options_within (length bytes) bytes ≡ None → [] ≡ options_of bytes
unfolding options_of
malformed bytes none = rw none refl
