-- Response codes that refuse an update (RFC 2136 section 2.2).
use Rattle.std.specs.Prelude.{◌≡◌, ℕ, Bool, cond, List, [], ◌∷◌, Option, Some, None, Result, Ok, Err}
use Rattle.std.specs.Option.{option_or}
use Rattle.hickory_base.specs.declared.errors.UpdateFault.{UpdateFault}
use Rattle.hickory_base.specs.declared.errors.UpdateFault.TheVariants.{Code, Memory}

-- it is refused with this code, unless the test holds
abbrev pub unless : Bool → ℕ → Option ℕ
unless holds code = cond holds None (Some code)

-- the code of the first that is refused
abbrev pub first_refusal : {X : Type 0} → (X → Option ℕ) → List X → Option ℕ
first_refusal refusal [] = None
first_refusal refusal (x ∷ xs) = option_or (refusal x) (first_refusal refusal xs)

-- The answer is that there is no refusal, or its code.
abbrev pub TellsCode : {T : Type 0} → Option ℕ → Result T ℕ → Type 0
TellsCode refusal (Ok done) = refusal ≡ None
TellsCode refusal (Err code) = refusal ≡ Some code

-- The answer is that there is no refusal, or its code; or memory was refused.
abbrev pub Tells : {T : Type 0} → Option ℕ → Result T UpdateFault → Type 0
Tells refusal (Ok done) = refusal ≡ None
Tells refusal (Err (Code code)) = refusal ≡ Some code
Tells refusal (Err Memory) = Unit {0}
