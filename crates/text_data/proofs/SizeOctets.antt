-- One digit less, of which there is one more behind the first.
use Rattle.std.proofs.Common.{◌≡◌, ◌∙◌, ◌+◌, ◌*◌, ◌/◌, ◌%◌, ◌^◌, ◌<◌, ◌≤◌, ℕ, zero, suc, sym, ap, subst, arith, mod-lt}
use Rattle.std.proofs.lemmas.Nat.{div-add-mod', div-mul-add, mul-add-lt, pow-add}
use Rattle.std.proofs.Math.Nat.{pow-suc}

spread : (p s r q n a b : ℕ) → p * b + s ≡ q → q * a + r ≡ n → p * (a * b) + (s * a + r) ≡ n
spread p s r q n a b outer inner = subst (λ (k : ℕ). p * (a * b) + (s * a + r) ≡ k) inner (subst (λ (k : ℕ). p * (a * b) + (s * a + r) ≡ k * a + r) outer (omega arith))

-- to divide by a number and by another is to divide by their product
divided_twice : (n a b : ℕ) → 0 < a → 0 < b → n / a / b ≡ n / (a * b)
divided_twice n a b some more =
    let rest : n % a < a = mod-lt n some in
    let last : n / a % b < b = mod-lt (n / a) more in
    let inner : n / a * a + n % a ≡ n = div-add-mod' n a in
    let outer : n / a / b * b + n / a % b ≡ n / a = div-add-mod' (n / a) b in
    let below : n / a % b * a + n % a < a * b = mul-add-lt (n / a % b) a (n % a) b last rest in
    let whole : n / a / b * (a * b) + (n / a % b * a + n % a) ≡ n = spread (n / a / b) (n / a % b) (n % a) (n / a) n a b outer inner in
    sym (div-mul-add (n / a / b) (a * b) (n / a % b * a + n % a) below) ∙ ap (λ (k : ℕ). k / (a * b)) whole

ten_pos : (exponent : ℕ) → 0 < 10 ^ exponent
ten_pos zero = omega arith
ten_pos (suc exponent) = omega (arith, ten_pos exponent, pow-suc 10 exponent)

pub one_less : (cents base exponent : ℕ) → base ≡ cents / 10 ^ exponent → base / 10 ≡ cents / 10 ^ (exponent + 1)
one_less cents base exponent first =
    let power : 10 ^ exponent * 10 ≡ 10 ^ (exponent + 1) = sym (pow-add 10 exponent 1) in
    ap (λ (k : ℕ). k / 10) first ∙ divided_twice cents (10 ^ exponent) 10 (ten_pos exponent) (omega arith) ∙ ap (λ (k : ℕ). cents / k) power

-- nine digits behind the first are the most
pub last_digit : (cents base exponent : ℕ) → base ≡ cents / 10 ^ exponent → 9 ≤ exponent → exponent ≤ 9 → cents ≤ 9000000000 → base < 10
last_digit cents base exponent first low high most =
    let nine : exponent ≡ 9 = omega (arith, low, high) in
    let whole : base ≡ cents / 1000000000 = first ∙ ap (λ (k : ℕ). cents / 10 ^ k) nine in
    omega (arith, whole, most)
