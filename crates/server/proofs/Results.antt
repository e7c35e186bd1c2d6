-- What holds where a call succeeded, and of what may not be there.
use Rattle.std.proofs.Common.{◌≡◌, Bor, Err, IfOk, IfSome, IsNone, IsOk, None, Ok, OnOk, Option, Result, Some, option_map, refl, sym}
use Rattle.std.proofs.lemmas.Bool.{false≢true}
use Rattle.std.specs.Option.{option_copied}

pub holds : {A E : Type 0} (result : Result A E) (P : Type 0) → IsOk result → OnOk result P → P
holds (Ok a) P is p = p
holds (Err e) P is p = absurd (false≢true is)

pub none_is : {A : Type 0} (value : Option A) → IsNone value → value ≡ None
none_is None is = refl
none_is (Some a) is = absurd (false≢true (sym is))

pub copied_map : {A B : Type 0} (f : A → B) (lent : Option (Bor A)) → option_map (λ (x : Bor A). f x.now) lent ≡ option_map f (option_copied lent)
copied_map f None = refl
copied_map f (Some x) = refl

-- the value of a call that succeeded, and what holds of it
pub held : {A E : Type 0} (result : Result A E) (P : A → Type 0) → IsOk result → IfOk result P → (a : A) × P a
held (Ok a) P is p = (a, p)
held (Err e) P is p = absurd (false≢true is)

-- what holds of the value, if there is one, and so does what follows from it
pub some_more : {A : Type 0} (value : Option A) (P Q : A → Type 0) → ((a : A) → P a → Q a) → IfSome value P → IfSome value Q
some_more None P Q then holds = holds
some_more (Some a) P Q then holds = then a holds
