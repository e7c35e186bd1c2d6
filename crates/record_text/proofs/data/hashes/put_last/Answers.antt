use Rattle.std.proofs.Common.{◌≡◌, ◌∙◌, ◌-◌, ◌*◌, ◌/◌, ◌%◌, ◌^◌, ◌<◌, ℕ, false, List, [], ◌∷◌, ◌++◌, Option, None, Some, Err, refl, length, take, drop, ap, sym, subst, arith, length-drop}
use Rattle.std.proofs.Math.Nat.{div-add-mod, mul-mod_left}
use Rattle.std.proofs.lemmas.Bool.{eqb-true}
use Rattle.std.proofs.lemmas.List.{append-nil, take_all}
use Rattle.std.specs.Int.{w64, to_be_bytes}
use Rattle.std.specs.Option.{IfNone, IfSome, ok_or}
use Rattle.std.specs.Prelude.{◌==◌}
use Rattle.std.proofs.lemmas.Result.{err_from_is_err_and}
use Rattle.text_words.specs.declared.error.TextError.{TextError}
use Rattle.text_words.specs.Spelling.{Puts}
use Rattle.record_text.specs.RecordText.{HasNone}
use Rattle.record_text.specs.Groups.{IsBase32, IsLastGroup, last_group}
use Rattle.record_text.specs.Groups.IsLastGroup.{nothing, some}
use Rattle.record_text.proofs.Digits.{IsLastCount, last_bits, last_count, same_greater}
use Rattle.record_text.proofs.data.hashes.put_last.Goals as goal

nothing_left : (digits octets : List ℕ) → length digits ≡ 0 → Puts (IsLastGroup digits) octets octets
nothing_left [] octets e = ([], sym (append-nil octets), nothing)
nothing_left (d ∷ digits) octets e = absurd (omega (arith, e))

pub returns-then-is_empty-clause-put : goal.returns-then-is_empty-clause-put
returns-then-is_empty-clause-put c = nothing_left c.args.digits.now c.args.bytes.now.items (eqb-true (length c.args.digits.now) 0 (sym c.is_empty.ensures ∙ c.if-is_empty.true))

not_empty : (digits : List ℕ) → (length digits == 0) ≡ false → 0 < length digits
not_empty [] e = absurd (cc)
not_empty (d ∷ digits) e = omega arith

-- no last group has so many digits
no_such_count : (o : Option (ℕ × ℕ)) (bad e : TextError) (digits : List ℕ) → 0 < length digits → o ≡ last_group (length digits) → Err e ≡ ok_or o bad → HasNone (IsLastGroup digits)
no_such_count None bad e [] more is was octets other = absurd (omega (arith, more))
no_such_count None bad e (d ∷ digits) more is was octets (some n count greater told value) = absurd (cc)
no_such_count (Some found) bad e digits more is was octets other = absurd (cc)

pub returns-in_err-count-clause-refused : goal.returns-in_err-count-clause-refused
returns-in_err-count-clause-refused c =
    let p = err_from_is_err_and c.from_residual.result c.from_residual.ensures.1 in
    rw p.1 (λ other. no_such_count c.last_group.result c.args.bad c.in_err-count.field-0.0 c.args.digits.now (not_empty c.args.digits.now (sym c.is_empty.ensures ∙ c.if-is_empty.false)) c.last_group.ensures.value c.in_err-count.ensures.value)

-- the digits are no number
no_number : (o : Option ℕ) (bad e : TextError) (digits : List ℕ) (count greater : ℕ) → last_group (length digits) ≡ Some (count, greater) → IfNone o (HasNone (λ n. IsBase32 digits n × (n < 2 ^ 64))) → Err e ≡ ok_or o bad → HasNone (IsLastGroup digits)
no_number None bad e [] count greater told refused was octets other = absurd (cc)
no_number None bad e (d ∷ digits) count greater told refused was octets (some n c g is value) = refused (n * g) (value, last_bits (d ∷ digits) (n * g) (last_count (length (d ∷ digits)) count greater told).few value)
no_number (Some found) bad e digits count greater told refused was octets other = absurd (cc)

pub returns-in_err-number-clause-refused : goal.returns-in_err-number-clause-refused
returns-in_err-number-clause-refused c =
    let p = err_from_is_err_and c.from_residual-in_err-number.result c.from_residual-in_err-number.ensures.1 in
    rw p.1 (λ other. no_number c.number_of_group.result c.args.bad c.in_err-number.field-0.0 c.args.digits.now c.in_ok-count.count c.in_ok-count.greater (sym c.last_group.ensures.value ∙ c.in_ok-count.ensures.ok_part) c.number_of_group.ensures.none c.in_err-number.ensures.value)

-- the number of the digits, told twice
told_number : (o : Option ℕ) (digits : List ℕ) (number : ℕ) → o ≡ Some number → IfSome o (IsBase32 digits) → IsBase32 digits number
told_number None digits number e is = absurd (cc)
told_number (Some found) digits number e is = let same : found ≡ number = cc in subst (IsBase32 digits) same is

-- bits behind those of the octets are not zero
bits_left : (digits : List ℕ) (number count greater : ℕ) → last_group (length digits) ≡ Some (count, greater) → IsBase32 digits number → (number % greater ≡ 0 → ⊥) → HasNone (IsLastGroup digits)
bits_left [] number count greater told is left octets other = absurd (cc)
bits_left (d ∷ digits) number count greater told is left octets (some n c g told' value) =
    let same : g ≡ greater = same_greater (last_group (length (d ∷ digits))) c g count greater told' told in
    let product : number ≡ n * greater = sym is.value ∙ value.value ∙ ap (λ (k : ℕ). n * k) same in
    left (ap (λ (m : ℕ). m % greater) product ∙ mul-mod_left n greater)

pub returns-then-number-greater-ne0-clause-refused : goal.returns-then-number-greater-ne0-clause-refused
returns-then-number-greater-ne0-clause-refused c =
    λ other. bits_left c.args.digits.now c.in_ok-number.number c.in_ok-count.count c.in_ok-count.greater (sym c.last_group.ensures.value ∙ c.in_ok-count.ensures.ok_part)
    (told_number c.number_of_group.result c.args.digits.now c.in_ok-number.number c.in_ok-number.ensures.ok_part c.number_of_group.ensures.value) c.if-number-greater-ne0.true

last_put : (digits before after bytes : List ℕ) (number count greater : ℕ) → last_group (length digits) ≡ Some (count, greater) → IsBase32 digits number → number % greater ≡ 0 → bytes ≡ to_be_bytes w64 (number / greater)
    → after ≡ before ++ take (8 - (8 - count)) (drop (8 - count) bytes) → Puts (IsLastGroup digits) before after
last_put digits before after bytes number count greater told is even be pushed =
    let f : IsLastCount (length digits) count greater = last_count (length digits) count greater told in
    let product : number ≡ number / greater * greater = omega (arith, div-add-mod number greater, even, turned greater (number / greater)) in
    let all : take (8 - (8 - count)) (drop (8 - count) bytes) ≡ drop (8 - count) (to_be_bytes w64 (number / greater)) =
    take_all (8 - (8 - count)) (drop (8 - count) bytes) (omega (arith, length-drop (8 - count) bytes, ap length be, eight (number / greater))) ∙ ap (λ (b : List ℕ). drop (8 - count) b) be in
    (drop (8 - count) (to_be_bytes w64 (number / greater)), pushed ∙ ap (λ (o : List ℕ). before ++ o) all, some (number / greater) count greater told (subst (IsBase32 digits) product is))
  where
    turned : (a b : ℕ) → a * b ≡ b * a
    turned a b = omega arith

    eight : (n : ℕ) → length (to_be_bytes w64 n) ≡ 8
    eight n = refl

pub returns-clause-put : goal.returns-clause-put
returns-clause-put c =
    last_put c.args.digits.now c.args.bytes.now.items c.extend_from_slice.new.self.items c.to_be_bytes.result c.in_ok-number.number c.in_ok-count.count c.in_ok-count.greater (sym c.last_group.ensures.value ∙ c.in_ok-count.ensures.ok_part)
    (told_number c.number_of_group.result c.args.digits.now c.in_ok-number.number c.in_ok-number.ensures.ok_part c.number_of_group.ensures.value) c.if-number-greater-ne0.false c.to_be_bytes.ensures c.in_ok-extend_from_slice.ensures.items
