-- The words of angles.
use Rattle.std.proofs.Common.{◌≡◌, ◌∙◌, ◌+◌, ◌*◌, ◌<◌, ℕ, List, [], ◌∷◌, length, get_or, sym, ap, subst, refl, arith}
use Rattle.text_words.specs.declared.words.Word.{Word}
use Rattle.text_data.proofs.DecimalOnce.{decimal_once}
use Rattle.text_data.specs.LocationText.{HasNone, IsAngle, IsDegrees, IsMinutes, IsSeconds}
use Rattle.text_data.specs.LocationText.IsAngle.{degrees, minutes, seconds}

pub one_word : (words : List Word) (d : Word) → length words ≡ 1 → words ≡ get_or words 0 d ∷ []
one_word [] d len = absurd (omega (arith, len))
one_word (a ∷ []) d len = refl
one_word (a ∷ b ∷ words) d len = absurd (omega (arith, len))

pub two_words : (words : List Word) (d : Word) → length words ≡ 2 → words ≡ get_or words 0 d ∷ get_or words 1 d ∷ []
two_words [] d len = absurd (omega (arith, len))
two_words (a ∷ []) d len = absurd (omega (arith, len))
two_words (a ∷ b ∷ []) d len = refl
two_words (a ∷ b ∷ c ∷ words) d len = absurd (omega (arith, len))

pub three_words : (words : List Word) (d : Word) → length words ≡ 3 → words ≡ get_or words 0 d ∷ get_or words 1 d ∷ get_or words 2 d ∷ []
three_words [] d len = absurd (omega (arith, len))
three_words (a ∷ []) d len = absurd (omega (arith, len))
three_words (a ∷ b ∷ []) d len = absurd (omega (arith, len))
three_words (a ∷ b ∷ c ∷ []) d len = refl
three_words (a ∷ b ∷ c ∷ e ∷ words) d len = absurd (omega (arith, len))

pub as_degrees : (words : List Word) (d : Word) (n m : ℕ) → length words ≡ 1 → IsDegrees (get_or words 0 d) n → m ≡ n → IsAngle words (3600000 * m)
as_degrees words d n m len is e =
    let all : n * 3600000 ≡ 3600000 * m = omega (arith, e) in
    subst (λ (ws : List Word). IsAngle ws (3600000 * m)) (sym (one_word words d len)) (subst (λ (v : ℕ). IsAngle (get_or words 0 d ∷ []) v) all (degrees is))

pub as_minutes : (words : List Word) (d : Word) (n m k j : ℕ) → length words ≡ 2 → IsDegrees (get_or words 0 d) n → m ≡ n → IsMinutes (get_or words 1 d) k → j ≡ k → IsAngle words (3600000 * m + 60000 * j)
as_minutes words d n m k j len is e other f =
    let all : n * 3600000 + k * 60000 ≡ 3600000 * m + 60000 * j = omega (arith, e, f) in
    subst (λ (ws : List Word). IsAngle ws (3600000 * m + 60000 * j)) (sym (two_words words d len)) (subst (λ (v : ℕ). IsAngle (get_or words 0 d ∷ get_or words 1 d ∷ []) v) all (minutes is other))

pub as_seconds : (words : List Word) (d : Word) (n m k j t : ℕ) → length words ≡ 3 → IsDegrees (get_or words 0 d) n → m ≡ n → IsMinutes (get_or words 1 d) k → j ≡ k → IsSeconds (get_or words 2 d) t → IsAngle words (3600000 * m + 60000 * j + t)
as_seconds words d n m k j t len is e other f last =
    let all : n * 3600000 + k * 60000 + t ≡ 3600000 * m + 60000 * j + t = omega (arith, e, f) in
    subst (λ (ws : List Word). IsAngle ws (3600000 * m + 60000 * j + t)) (sym (three_words words d len))
    (subst (λ (v : ℕ). IsAngle (get_or words 0 d ∷ get_or words 1 d ∷ get_or words 2 d ∷ []) v) all (seconds is other last))

of_three : (a b c : Word) (n : ℕ) → IsAngle (a ∷ b ∷ c ∷ []) n → HasNone (IsSeconds c) → ⊥
of_three a b c n (seconds {t = t} is other last) none = none t last

pub no_seconds : (words : List Word) (d : Word) → length words ≡ 3 → HasNone (IsSeconds (get_or words 2 d)) → (n : ℕ) → IsAngle words n → n < 4294967296 → ⊥
no_seconds words d len none n is small = of_three (get_or words 0 d) (get_or words 1 d) (get_or words 2 d) n (subst (λ (ws : List Word). IsAngle ws n) (three_words words d len) is) none

-- words are one angle at most
pub angle_once : (words : List Word) (n m : ℕ) → IsAngle words n → IsAngle words m → n ≡ m
angle_once words n m (degrees a) (degrees b) = ap (λ (k : ℕ). k * 3600000) (sym a.1.value ∙ b.1.value)
angle_once words n m (minutes {n = x} {k = y} a c) (minutes {n = v} {k = w} b d) =
    let e : x ≡ v = sym a.1.value ∙ b.1.value in
    let f : y ≡ w = sym c.1.value ∙ d.1.value in
    omega (arith, e, f)
angle_once words n m (seconds {s = t} {n = x} {k = y} {t = z} a c last) (seconds {n = v} {k = w} {t = u} b d other) =
    let e : x ≡ v = sym a.1.value ∙ b.1.value in
    let f : y ≡ w = sym c.1.value ∙ d.1.value in
    let g : z ≡ u = decimal_once 3 t.bytes.now z u last.1 other.1 in
    omega (arith, e, f, g)
