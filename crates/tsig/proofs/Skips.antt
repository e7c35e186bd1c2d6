-- Skipping one item, and the others.
use Rattle.std.proofs.Common.{◌≡◌, ℕ, zero, suc, ◌-◌, ◌<◌, Ok, Err, ap, ◌∙◌, arith}
use Rattle.wire_messages.specs.serialize.reading.Cursor.{Cursor}
use Rattle.wire_messages.specs.serialize.reading.Reading.{Read, ◌>>=◌}
use Rattle.wire_names.specs.declared.error.DecodeError.{DecodeError}
use Rattle.tsig.specs.Reading.{skip}

step : {A : Type 0} (read : Cursor → Read A) (n : ℕ) (c : Cursor) → 0 < n → skip read n c ≡ (read c >>= λ x. skip read (n - 1) x.1)
unfolding skip
step read zero c h = absurd (omega arith)
step read (suc n) c h = ap (λ k. read c >>= λ x. skip read k x.1) (let e : n ≡ suc n - 1 = omega arith in e)

-- where one is read
pub skip_more : {A : Type 0} (read : Cursor → Read A) (n : ℕ) (c next : Cursor) (x : A) → 0 < n → read c ≡ Ok (x, next) → skip read n c ≡ skip read (n - 1) next
skip_more read n c next x h e = step read n c h ∙ ap (λ r. r >>= λ y. skip read (n - 1) y.1) e

-- where one has a fault
pub skip_fails : {A : Type 0} (read : Cursor → Read A) (n : ℕ) (c : Cursor) (e : DecodeError) → 0 < n → read c ≡ Err e → skip read n c ≡ Err e
skip_fails read n c e h f = step read n c h ∙ ap (λ r. r >>= λ y. skip read (n - 1) y.1) f

-- none
pub skip_none : {A : Type 0} (read : Cursor → Read A) (n : ℕ) (c : Cursor) → n ≡ 0 → skip read n c ≡ Ok c
unfolding skip
skip_none read zero c h = λ i. Ok c
skip_none read (suc n) c h = absurd (omega arith)
