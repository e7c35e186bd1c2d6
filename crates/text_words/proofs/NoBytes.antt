-- Text of bytes that is refused where some of it is read.
use Rattle.std.proofs.Common.{◌≡◌, ◌∙◌, ℕ, ◌+◌, ◌-◌, ◌<◌, Bool, List, [], ◌∷◌, ◌++◌, Some, length, take, drop, get_or, sym, ap, subst, refl, arith, length-drop}
use Rattle.std.proofs.lemmas.List.{take-append-drop, drop-drop, take_rest}
use Rattle.std.specs.List.{slice_get}
use Rattle.std.specs.Str.Parse.{IsNumeral}
use Rattle.text_words.specs.Spelling.{HasNoFirstByte, IsNumber, SpellsByte}
use Rattle.text_words.specs.Spelling.SpellsByte.{bare, numbered, escaped}
use Rattle.text_words.proofs.SpelledOnce.{Reads, heads, no_piece, same_piece}
use Rattle.text_words.proofs.SpelledOnce.Reads.{done, byte}

-- An empty text has no first byte, and neither has a backslash with nothing behind it.
pub nothing_first : HasNoFirstByte []
nothing_first piece behind b x one e = no_piece piece behind b x one e

pub nothing_escaped : (text : List ℕ) → length text ≡ 0 → HasNoFirstByte (92 ∷ text)
nothing_escaped text none piece behind b x (bare n) e = n (sym (heads 92 b text behind e).0)
nothing_escaped text none piece behind b x (numbered {hundreds = h} {tens = t} {ones = o} is small) e = let tail : text ≡ (h ∷ t ∷ o ∷ behind) = (heads 92 92 text (h ∷ t ∷ o ∷ behind) e).1 in omega (arith, ap length tail, none)
nothing_escaped text none piece behind b x (escaped other) e = let tail : text ≡ (b ∷ behind) = (heads 92 92 text (b ∷ behind) e).1 in omega (arith, ap length tail, none)

-- nor has one before a digit that does not begin three of a byte
pub too_few_digits : (text : List ℕ) (digit : ℕ) → Some digit ≡ slice_get text 0 → IsNumeral 10 (digit ∷ []) → length text < 3 → HasNoFirstByte (92 ∷ text)
too_few_digits text digit is numeral few piece behind b x (bare n) e = n (sym (heads 92 b text behind e).0)
too_few_digits text digit is numeral few piece behind b x (numbered {hundreds = h} {tens = t} {ones = o} number small) e =
    let tail : text ≡ (h ∷ t ∷ o ∷ behind) = (heads 92 92 text (h ∷ t ∷ o ∷ behind) e).1 in omega (arith, ap length tail, few)
too_few_digits text digit is numeral few piece behind b x (escaped other) e =
    let tail : text ≡ (b ∷ behind) = (heads 92 92 text (b ∷ behind) e).1 in
    let first : Some digit ≡ Some b = is ∙ ap (λ (t : List ℕ). slice_get t 0) tail in
    let same : digit ≡ b = cc in
    other (subst (λ (d : ℕ). IsNumeral 10 (d ∷ [])) same numeral)

pub no_byte_of_digits : (text : List ℕ) (digit : ℕ) → Some digit ≡ slice_get text 0 → IsNumeral 10 (digit ∷ []) → ((n : ℕ) → IsNumber (digit ∷ get_or text 1 0 ∷ get_or text 2 0 ∷ []) n → n < 256 → ⊥) → HasNoFirstByte (92 ∷ text)
no_byte_of_digits text digit is numeral none piece behind b x (bare n) e = n (sym (heads 92 b text behind e).0)
no_byte_of_digits text digit is numeral none piece behind b x (numbered {hundreds = h} {tens = t} {ones = o} number small) e =
    let tail : text ≡ (h ∷ t ∷ o ∷ behind) = (heads 92 92 text (h ∷ t ∷ o ∷ behind) e).1 in
    let first : Some digit ≡ Some h = is ∙ ap (λ (u : List ℕ). slice_get u 0) tail in
    let same : digit ≡ h = cc in
    let second : get_or text 1 0 ≡ t = ap (λ (u : List ℕ). get_or u 1 0) tail in
    let third : get_or text 2 0 ≡ o = ap (λ (u : List ℕ). get_or u 2 0) tail in
    let digits : (h ∷ t ∷ o ∷ []) ≡ (digit ∷ get_or text 1 0 ∷ get_or text 2 0 ∷ []) = rw (same, second, third) refl in
    none b (subst (λ (ds : List ℕ). IsNumber ds b) digits number) small
no_byte_of_digits text digit is numeral none piece behind b x (escaped other) e =
    let tail : text ≡ (b ∷ behind) = (heads 92 92 text (b ∷ behind) e).1 in
    let first : Some digit ≡ Some b = is ∙ ap (λ (t : List ℕ). slice_get t 0) tail in
    let same : digit ≡ b = cc in
    other (subst (λ (d : ℕ). IsNumeral 10 (d ∷ [])) same numeral)

module _ (may : ℕ → Bool) where
  next : (t p r behind : List ℕ) (a : ℕ) (x : Bool) → SpellsByte p a x → Reads may t behind → t ≡ (p ++ r) → (after : List ℕ) × Reads may r after × (behind ≡ (a ∷ after))
  next t p r behind a x one done e = absurd (no_piece p r a x one e)
  next t p r behind a x one (byte {piece = q} {rest = s} {bytes = bs} {b = b} {is_bare = y} two bare_b rest) e =
      let same : (q ≡ p) × (b ≡ a) × (y ≡ x) × (s ≡ r) = same_piece q p s r b a y x two one e in
      (bs, subst (λ (u : List ℕ). Reads may u bs) same.3 rest, ap (λ (c : ℕ). c ∷ bs) same.1)

  -- the rest of a text in two: so many bytes, and those behind them
  pub parted : (text : List ℕ) (place len : ℕ) → drop place text ≡ (take len (take (length text - place) (drop place text)) ++ drop (place + len) text)
  parted text place len =
      sym (take-append-drop len (drop place text)) ∙ ap (λ (u : List ℕ). take len (drop place text) ++ u) (drop-drop len place text) ∙ ap (λ (u : List ℕ). take len u ++ drop (place + len) text) (sym (take_rest text place))

  -- one byte more is read of what is left
  pub one_left : (text behind : List ℕ) (place len b : ℕ) (is_bare : Bool) → SpellsByte (take len (take (length text - place) (drop place text))) b is_bare → Reads may (drop place text) behind
      → (after : List ℕ) × Reads may (drop (place + len) text) after × (behind ≡ (b ∷ after))
  one_left text behind place len b is_bare one left = next (drop place text) (take len (take (length text - place) (drop place text))) (drop (place + len) text) behind b is_bare one left (parted text place len)

  stuck : (t behind : List ℕ) → HasNoFirstByte t → 0 < length t → Reads may t behind → ⊥
  stuck t behind none some done = omega (arith, some)
  stuck t behind none some (byte {piece = q} {rest = s} {b = b} {is_bare = y} two bare_b rest) = none q s b y two refl

  -- where no first byte is spelled, nothing is left that spells bytes
  pub none_left : (text behind : List ℕ) (place : ℕ) → HasNoFirstByte (take (length text - place) (drop place text)) → place < length text → Reads may (drop place text) behind → ⊥
  none_left text behind place none within left = stuck (drop place text) behind (subst HasNoFirstByte (take_rest text place) none) (omega (arith, length-drop place text)) left

  some_left : (t behind : List ℕ) → 0 < length t → Reads may t behind → 0 < length behind
  some_left t behind some done = omega (arith, some)
  some_left t behind some (byte {bytes = bs} one bare_b rest) = omega arith

  -- what is left of a text that is not at its end spells a byte
  pub byte_left : (text behind : List ℕ) (place : ℕ) → place < length text → Reads may (drop place text) behind → 0 < length behind
  byte_left text behind place within left = some_left (drop place text) behind (omega (arith, length-drop place text)) left
