use Rattle.std.proofs.Common.{◌≡◌, ◌≢◌, ◌+◌, ◌<◌, ◌≤◌, ◌⊎◌, inl, inr, ℕ, List, Bool, true, false, get_or, subst, refl, arith}
use Rattle.std.proofs.lemmas.Bool.{cases_lt, eqb-true}
use Rattle.zone_text.specs.ZoneFaults.{is_line_feed}
use Rattle.zone_text.proofs.zone_file.fault.line_and_column.Goals as goal

feed : (byte : ℕ) → byte ≡ 10 → is_line_feed byte ≡ true
feed byte e = rw e refl

no_feed : (byte : ℕ) (b : Bool) → is_line_feed byte ≡ b → byte ≢ 10 → b ≡ false
no_feed byte true is other = absurd (other (eqb-true byte 10 is))
no_feed byte false is other = refl

-- one byte more of the line
still_one_line : (text : List ℕ) (start at : ℕ) → ((i : ℕ) → start ≤ i → i < at → get_or text i 0 ≢ 10) → get_or text at 0 ≢ 10 → (i : ℕ) → start ≤ i → i < at + 1 → get_or text i 0 ≢ 10
still_one_line text start at before here i on below = by_order (cases_lt i at) where
  by_order : (i < at) ⊎ (at ≤ i) → get_or text i 0 ≢ 10
  by_order (inl less) = before i on less
  by_order (inr over) = let same : at ≡ i = omega (arith, over, below) in subst (λ (k : ℕ). get_or text k 0 ≢ 10) same here

pub loop-at-init : goal.loop-at-init
loop-at-init c = record {
  on = omega arith;
  begins = λ some. absurd (omega (arith, some));
  one_line = λ i on below. absurd (omega (arith, below));
  lines = refl;
  small = omega arith;
}
