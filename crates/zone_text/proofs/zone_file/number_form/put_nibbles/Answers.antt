use Rattle.std.proofs.Common.{◌≡◌, ◌∙◌, ◌-◌, ◌<◌, ◌/◌, ◌%◌, ◌++◌, ℕ, zero, suc, Bool, List, [], ◌∷◌, append-nil, append_assoc, ap, arith}
use Rattle.std.proofs.lemmas.Bool.{lt-ltb}
use Rattle.std.specs.Prelude.{if◌then◌else◌, nat_lt}
use Rattle.std.specs.Fmt.{digit_glyph}
use Rattle.zone_text.specs.Numbered.{nibbles}
use Rattle.zone_text.proofs.zone_file.number_form.put_nibbles.Goals as goal

abbrev one : Bool → ℕ → List ℕ
one more g = if more then g ∷ 46 ∷ [] else g ∷ []

step : (upper : Bool) (left rest : ℕ) (old new : List ℕ) → 0 < left → new ≡ old ++ one (nat_lt 1 left) (digit_glyph upper (rest % 16)) → new ++ nibbles upper (left - 2) (rest / 16) ≡ old ++ nibbles upper left rest
step upper zero rest old new some e = absurd (omega (arith, some))
step upper (suc zero) rest old new some e = append-nil new ∙ e
step upper (suc (suc left)) rest old new some e =
    let g : ℕ = digit_glyph upper (rest % 16) in
    let is : new ≡ old ++ (g ∷ 46 ∷ []) = e ∙ ap (λ (b : Bool). old ++ one b g) (lt-ltb 1 (suc (suc left)) (omega arith)) in
    let two : suc (suc left) - 2 ≡ left = omega arith in
    rw two (ap (λ (l : List ℕ). l ++ nibbles upper left (rest / 16)) is ∙ append_assoc old (g ∷ 46 ∷ []) (nibbles upper left (rest / 16)))

pub digits-preserved : goal.digits-preserved
digits-preserved c = rw c.saturating_sub-left.ensures (step c.args.upper c.digits.left c.digits.rest c.digits.bytes.items c.put_nibble.new.bytes.items c.digits-test.true c.in_ok-put_nibble.ensures ∙ c.digits.invariant)
