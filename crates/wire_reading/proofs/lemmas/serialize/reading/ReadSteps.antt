-- One step of reading after another.
use Rattle.std.proofs.Common.{◌≡◌, Bool, true, false, cond, Result, Ok, Err, refl}
use Rattle.wire_messages.specs.serialize.reading.Reading.{◌>>=◌}
use Rattle.wire_names.specs.declared.error.DecodeError.{DecodeError}

-- what follows may be changed where it is reached
pub then_alike : {A B : Type 0} (r : Result A DecodeError) (k m : A → Result B DecodeError) → ((x : A) → r ≡ Ok x → k x ≡ m x) → (r >>= k) ≡ (r >>= m)
then_alike (Ok x) k m h = h x refl
then_alike (Err e) k m h = refl

abbrev pub wrap : {A : Type 0} → A → Result A DecodeError
wrap x = Ok x

pub ok_is : {A : Type 0} (x y : A) → wrap x ≡ wrap y → x ≡ y
ok_is x y e = cc

-- a guarded result that is Ok
pub guard_ok : {A : Type 0} (b : Bool) (d : DecodeError) (x y : A) → cond b (Err d) (wrap x) ≡ Ok y → (b ≡ false) × (x ≡ y)
guard_ok true d x y e = absurd cc
guard_ok false d x y e = (refl, cc)

-- two steps that are Ok together
pub bind_ok : {A B : Type 0} (r : Result A DecodeError) (f : A → Result B DecodeError) (y : B) → (r >>= f) ≡ Ok y → (x : A) × (r ≡ Ok x) × (f x ≡ Ok y)
bind_ok (Ok x) f y e = (x, refl, e)
bind_ok (Err d) f y e = absurd cc
