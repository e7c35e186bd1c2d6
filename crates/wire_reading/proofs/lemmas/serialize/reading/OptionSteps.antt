-- Octets that are made of options are read as these options, and as none otherwise.
use Rattle.std.proofs.Common.{◌≡◌, inl, inr, ℕ, zero, suc, ◌+◌, ◌*◌, ◌<◌, ◌≤◌, List, [], ◌∷◌, ◌++◌, length, get_or, take, drop, Option, Some, None, option_map, unwrap_or, refl, sym, ap, subst, ◌∙◌, arith, length-append, take-append-drop}
use Rattle.std.specs.List.{AllByRecursion, flat_map}
use Rattle.std.specs.Int.{w16, to_be_bytes, from_be_bytes}
use Rattle.std.proofs.lemmas.Bool.{le-ltb, lt-ltb, cases_lt}
use Rattle.std.proofs.lemmas.List.{length-take, get_or-drop, take_at, drop_at}
use Rattle.std.proofs.lemmas.Nat.{from_be_bytes-to_be_bytes_2, be_bytes_2}
use Rattle.wire_names.specs.serialize.layout.Bytes.{AreBytes}
use Rattle.wire_messages.specs.rr.RecordData.{option_octets, IsOption, OptionsOf}
use Rattle.wire_messages.specs.rr.RecordData.OptionsOf.{well_formed, malformed}
use Rattle.wire_messages.specs.serialize.reading.RecordReading.{options_within, options_of}
use Rattle.wire_messages.specs.declared.op.edns.EdnsOption.{EdnsOption}

-- the length that the first option gives of its data
abbrev pub size_in : List ℕ → ℕ
size_in octets = from_be_bytes w16 (take 2 (drop 2 octets))

-- the first option
abbrev pub option_in : List ℕ → EdnsOption
option_in octets = record { code = from_be_bytes w16 (take 2 octets); bytes = take (size_in octets) (drop 4 octets) }

-- what stands behind it
abbrev pub behind_in : List ℕ → List ℕ
behind_in octets = drop (size_in octets) (drop 4 octets)

-- ---- a step

-- an option whose data are there is read, and reading goes on behind it
one_step : (fuel : ℕ) (octets : List ℕ) → 4 ≤ length octets → size_in octets ≤ length (drop 4 octets)
    → options_within (suc fuel) octets ≡ option_map (λ others. option_in octets ∷ others) (options_within fuel (behind_in octets))
unfolding options_within
one_step fuel [] long fits = absurd (omega arith)
one_step fuel (b ∷ bs) long fits = rw (le-ltb (length (b ∷ bs)) 4 long, le-ltb (length (drop 4 (b ∷ bs))) (size_in (b ∷ bs)) fits) refl

-- fewer than four bytes are no option
short_step : (fuel : ℕ) (b : ℕ) (bs : List ℕ) → length (b ∷ bs) < 4 → options_within (suc fuel) (b ∷ bs) ≡ None
unfolding options_within
short_step fuel b bs short = rw (lt-ltb (length (b ∷ bs)) 4 short) refl

-- neither is one whose data are cut
cut_step : (fuel : ℕ) (b : ℕ) (bs : List ℕ) → 4 ≤ length (b ∷ bs) → length (drop 4 (b ∷ bs)) < size_in (b ∷ bs) → options_within (suc fuel) (b ∷ bs) ≡ None
unfolding options_within
cut_step fuel b bs long cut = rw (le-ltb (length (b ∷ bs)) 4 long, lt-ltb (length (drop 4 (b ∷ bs))) (size_in (b ∷ bs)) cut) refl

-- no octets are no options
no_octets : (fuel : ℕ) → options_within fuel [] ≡ Some []
unfolding options_within
no_octets zero = refl
no_octets (suc fuel) = refl

-- without steps left nothing is read
out_of_fuel : (b : ℕ) (bs : List ℕ) → options_within zero (b ∷ bs) ≡ None
unfolding options_within
out_of_fuel b bs = refl

-- ---- options that are there are read

-- an option in front of other octets
record Front (octets : List ℕ) (option : EdnsOption) (rest : List ℕ) : Type 0 where
  long : 4 ≤ length octets
  fits : size_in octets ≤ length (drop 4 octets)
  first : option_in octets ≡ option
  behind : behind_in octets ≡ rest

-- the octets of an option, with others behind, begin with that option
front : (option : EdnsOption) (rest : List ℕ) → IsOption option → Front (option_octets option ++ rest) option rest
front option rest is =
    let code = from_be_bytes-to_be_bytes_2 option.code is.code in
    let size : size_in (option_octets option ++ rest) ≡ length option.bytes = from_be_bytes-to_be_bytes_2 (length option.bytes) is.short in
    let bytes : take (size_in (option_octets option ++ rest)) (option.bytes ++ rest) ≡ option.bytes = take_at option.bytes rest _ (sym size) in
    let more : drop (size_in (option_octets option ++ rest)) (option.bytes ++ rest) ≡ rest = drop_at option.bytes rest _ (sym size) in
    record {
      long = omega arith;
      fits = omega (arith, length-append option.bytes rest);
      first = ap (λ (c : ℕ). let o : EdnsOption = record { code = c; bytes = take (size_in (option_octets option ++ rest)) (option.bytes ++ rest) } in o) code ∙ ap (λ (d : List ℕ). let o : EdnsOption = record { code = option.code; bytes = d } in o) bytes;
      behind = more;
    }

-- options that octets are made of are read from them
pub options_here : (options : List EdnsOption) (fuel : ℕ) → AllByRecursion IsOption options → length (flat_map option_octets options) ≤ fuel → options_within fuel (flat_map option_octets options) ≡ Some options
options_here [] fuel all enough = no_octets fuel
options_here (option ∷ options) zero all enough = absurd (omega (arith, length-append (option_octets option) (flat_map option_octets options)))
options_here (option ∷ options) (suc fuel) all enough =
    let rest = flat_map option_octets options in
    let f = front option rest all.0 in
    let again = options_here options fuel all.1 (omega (arith, length-append (option_octets option) rest)) in
    one_step fuel (option_octets option ++ rest) f.long f.fits
    ∙ ap (λ (o : List ℕ). option_map (λ others. option_in (option_octets option ++ rest) ∷ others) (options_within fuel o)) f.behind
    ∙ ap (λ (found : Option (List EdnsOption)). option_map (λ others. option_in (option_octets option ++ rest) ∷ others) found) again
    ∙ ap (λ (o : EdnsOption). let found : Option (List EdnsOption) = Some (o ∷ options) in found) f.first

-- the options that octets are made of are those that are read
pub options_again : (options : List EdnsOption) → AllByRecursion IsOption options → options_of (flat_map option_octets options) ≡ options
unfolding options_of
options_again options all = rw (options_here options (length (flat_map option_octets options)) all (omega arith)) refl

-- ---- what is read is there

-- octets are made of these options
abbrev MadeOf : List ℕ → List EdnsOption → Type 0
MadeOf octets options = AllByRecursion IsOption options × (octets ≡ flat_map option_octets options)

-- whatever options are found, the octets are made of them
abbrev FoundIn : List ℕ → Option (List EdnsOption) → Type 0
FoundIn octets None = Unit {0}
FoundIn octets (Some options) = MadeOf octets options

-- two bytes are bytes
pair_bytes : (a b : ℕ) → a < 256 → b < 256 → (i : ℕ) → get_or (a ∷ b ∷ []) i 0 < 256
pair_bytes a b low high zero = low
pair_bytes a b low high (suc zero) = high
pair_bytes a b low high (suc (suc i)) = omega arith

-- two bytes are those of the number that they make
byte_pair : (a b n : ℕ) → a < 256 → b < 256 → n ≡ a * 256 + b → to_be_bytes w16 n ≡ a ∷ b ∷ []
byte_pair a b n low high e = be_bytes_2 (a ∷ b ∷ []) n refl (pair_bytes a b low high) e

-- octets are their first option and what stands behind it
split : (a b c d : ℕ) (rest : List ℕ) → AreBytes (a ∷ b ∷ c ∷ d ∷ rest) → c * 256 + d ≤ length rest
    → IsOption (option_in (a ∷ b ∷ c ∷ d ∷ rest)) × (a ∷ b ∷ c ∷ d ∷ rest ≡ option_octets (option_in (a ∷ b ∷ c ∷ d ∷ rest)) ++ behind_in (a ∷ b ∷ c ∷ d ∷ rest))
split a b c d rest bytes fits =
    let n = c * 256 + d in
    let code = a * 256 + b in
    let text = take n rest in
    let len : length text ≡ n = omega (arith, length-take n rest) in
    let one : to_be_bytes w16 code ≡ a ∷ b ∷ [] = byte_pair a b code (bytes 0) (bytes 1) refl in
    let two : to_be_bytes w16 (length text) ≡ c ∷ d ∷ [] = byte_pair c d (length text) (bytes 2) (bytes 3) len in (
      record { code = omega (arith, bytes 0, bytes 1); short = omega (arith, bytes 2, bytes 3) },
      sym (ap (λ h. h ++ to_be_bytes w16 (length text) ++ text ++ drop n rest) one ∙ ap (λ h. a ∷ b ∷ (h ++ text ++ drop n rest)) two ∙ ap (λ r. a ∷ b ∷ c ∷ d ∷ r) (take-append-drop n rest)),
    )

-- the rest of bytes are bytes
drop_bytes : (n : ℕ) (octets : List ℕ) → AreBytes octets → AreBytes (drop n octets)
drop_bytes n octets a = λ k. omega (arith, get_or-drop n octets k 0, a (n + k))

-- with the first option, where others were found behind it
more_found : (a b c d : ℕ) (rest : List ℕ) (found : Option (List EdnsOption)) → AreBytes (a ∷ b ∷ c ∷ d ∷ rest) → c * 256 + d ≤ length rest → FoundIn (behind_in (a ∷ b ∷ c ∷ d ∷ rest)) found
    → FoundIn (a ∷ b ∷ c ∷ d ∷ rest) (option_map (λ others. option_in (a ∷ b ∷ c ∷ d ∷ rest) ∷ others) found)
more_found a b c d rest None bytes fits made = tt
more_found a b c d rest (Some others) bytes fits made =
    let parts = split a b c d rest bytes fits in
    ((parts.0, made.0), parts.1 ∙ ap (λ r. option_octets (option_in (a ∷ b ∷ c ∷ d ∷ rest)) ++ r) made.1)

-- where no option was found there is nothing to show
none_found : (octets : List ℕ) (found : Option (List EdnsOption)) → found ≡ None → FoundIn octets found
none_found octets found e = rw e tt

-- the octets are made of the options that are found
pub found_options : (fuel : ℕ) (octets : List ℕ) → AreBytes octets → FoundIn octets (options_within fuel octets)
found_options fuel [] bytes = rw (no_octets fuel) (tt, refl)
found_options zero (a ∷ octets) bytes = none_found (a ∷ octets) _ (out_of_fuel a octets)
found_options (suc fuel) (a ∷ []) bytes = none_found _ _ (short_step fuel a [] (omega arith))
found_options (suc fuel) (a ∷ b ∷ []) bytes = none_found _ _ (short_step fuel a (b ∷ []) (omega arith))
found_options (suc fuel) (a ∷ b ∷ c ∷ []) bytes = none_found _ _ (short_step fuel a (b ∷ c ∷ []) (omega arith))
found_options (suc fuel) (a ∷ b ∷ c ∷ d ∷ rest) bytes =
    let octets = a ∷ b ∷ c ∷ d ∷ rest in
    elim (cases_lt (length rest) (c * 256 + d)) [
      | inl cut ↦ none_found octets _ (cut_step fuel a (b ∷ c ∷ d ∷ rest) (omega arith) cut)
      | inr fits ↦
          let behind = found_options fuel (behind_in octets) (drop_bytes (size_in octets) rest (λ k. bytes (suc (suc (suc (suc k)))))) in
          subst (λ (found : Option (List EdnsOption)). FoundIn octets found) (sym (one_step fuel octets (omega arith) fits)) (more_found a b c d rest (options_within fuel (behind_in octets)) bytes fits behind)
    ]

-- ---- both ways

-- the first options that are found are those that the octets are made of
made_found : (octets : List ℕ) (options : List EdnsOption) → MadeOf octets options → options_within (length octets) octets ≡ Some options
made_found octets options (all, e) = let found = options_here options (length octets) all (omega (arith, ap length e)) in ap (options_within (length octets)) e ∙ found

-- the octets hold what was found in them
held_by : (octets : List ℕ) (found : Option (List EdnsOption)) → FoundIn octets found → options_within (length octets) octets ≡ found → OptionsOf octets (unwrap_or found [])
held_by octets None made e = malformed (λ options all is. let some : options_within (length octets) octets ≡ Some options = made_found octets options (all, is) in absurd cc)
held_by octets (Some options) made e = well_formed made.0 made.1

-- octets that are not made of options read as none
none_is : (octets : List ℕ) (found : Option (List EdnsOption)) → FoundIn octets found → ((options : List EdnsOption) → AllByRecursion IsOption options → octets ≡ flat_map option_octets options → ⊥) → unwrap_or found [] ≡ []
none_is octets None made none = refl
none_is octets (Some options) made none = absurd (none options made.0 made.1)

-- what is read of octets is what they hold
pub options_held : (octets : List ℕ) → AreBytes octets → OptionsOf octets (options_of octets)
unfolding options_of
options_held octets bytes = held_by octets (options_within (length octets) octets) (found_options (length octets) octets bytes) refl

-- what octets hold is what is read of them
pub options_read : (octets : List ℕ) (options : List EdnsOption) → OptionsOf octets options → AreBytes octets → options_of octets ≡ options
unfolding options_of
options_read octets options (well_formed all e) bytes = ap options_of e ∙ options_again options all
options_read octets options (malformed none) bytes = none_is octets (options_within (length octets) octets) (found_options (length octets) octets bytes) none
