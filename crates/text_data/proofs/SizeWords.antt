-- The words of sizes.
use Rattle.std.proofs.Common.{◌≡◌, ◌<◌, ℕ, false, List, [], ◌∷◌, length, get_or, sym, subst, arith}
use Rattle.text_words.specs.declared.words.Word.{Word}
use Rattle.text_data.proofs.AngleWords.{one_word, three_words, two_words}
use Rattle.text_data.specs.LocationText.{AreSizes, HasNone, IsSize}
use Rattle.text_data.specs.LocationText.AreSizes.{none, one, two, three}

abbrev pub IsSizeWord : Word → ℕ → Type 0
IsSizeWord word octet = (word.quoted ≡ false) × IsSize word.bytes.now octet

pub no_first : (words : List Word) (d : Word) (octets : List ℕ) → AreSizes words octets → 0 < length words → HasNone (IsSizeWord (get_or words 0 d)) → ⊥
no_first words d octets none more absent = absurd (omega (arith, more))
no_first words d octets (one {a = n} plain is) more absent = absent n (plain, is)
no_first words d octets (two {a = n} plain is bare other) more absent = absent n (plain, is)
no_first words d octets (three {a = n} plain is bare other third last) more absent = absent n (plain, is)

pub no_second : (words : List Word) (d : Word) (octets : List ℕ) → AreSizes words octets → 1 < length words → HasNone (IsSizeWord (get_or words 1 d)) → ⊥
no_second words d octets none more absent = absurd (omega (arith, more))
no_second words d octets (one plain is) more absent = absurd (omega (arith, more))
no_second words d octets (two {b = k} plain is bare other) more absent = absent k (bare, other)
no_second words d octets (three {b = k} plain is bare other third last) more absent = absent k (bare, other)

pub no_third : (words : List Word) (d : Word) (octets : List ℕ) → AreSizes words octets → 2 < length words → HasNone (IsSizeWord (get_or words 2 d)) → ⊥
no_third words d octets none more absent = absurd (omega (arith, more))
no_third words d octets (one plain is) more absent = absurd (omega (arith, more))
no_third words d octets (two plain is bare other) more absent = absurd (omega (arith, more))
no_third words d octets (three {c = j} plain is bare other third last) more absent = absent j (third, last)

pub no_sizes : (words : List Word) → length words < 1 → AreSizes words (18 ∷ 22 ∷ 19 ∷ [])
no_sizes [] few = none
no_sizes (w ∷ words) few = absurd (omega (arith, few))

pub one_size : (words : List Word) (d : Word) (n : ℕ) → length words ≡ 1 → IsSizeWord (get_or words 0 d) n → AreSizes words (n ∷ 22 ∷ 19 ∷ [])
one_size words d n len is = subst (λ (ws : List Word). AreSizes ws (n ∷ 22 ∷ 19 ∷ [])) (sym (one_word words d len)) (one is.0 is.1)

pub two_sizes : (words : List Word) (d : Word) (n k : ℕ) → length words ≡ 2 → IsSizeWord (get_or words 0 d) n → IsSizeWord (get_or words 1 d) k → AreSizes words (n ∷ k ∷ 19 ∷ [])
two_sizes words d n k len is other = subst (λ (ws : List Word). AreSizes ws (n ∷ k ∷ 19 ∷ [])) (sym (two_words words d len)) (two is.0 is.1 other.0 other.1)

pub three_sizes : (words : List Word) (d : Word) (n k j : ℕ) → length words ≡ 3 → IsSizeWord (get_or words 0 d) n → IsSizeWord (get_or words 1 d) k → IsSizeWord (get_or words 2 d) j → AreSizes words (n ∷ k ∷ j ∷ [])
three_sizes words d n k j len is other last = subst (λ (ws : List Word). AreSizes ws (n ∷ k ∷ j ∷ [])) (sym (three_words words d len)) (three is.0 is.1 other.0 other.1 last.0 last.1)
