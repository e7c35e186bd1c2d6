-- Reading from left to right, with the first fault that is met.
use Rattle.std.specs.Prelude.{◌≡◌, ◌≢◌, ℕ, ◌+◌, List, length, take, drop, Result, Ok, Err, nat_lt, if◌then◌else◌}
use Rattle.std.specs.Int.{Width, byte_len, from_be_bytes}
use Rattle.wire_messages.specs.serialize.reading.Cursor.{Cursor}
use Rattle.wire_names.specs.declared.error.DecodeError.{DecodeError}
use Rattle.wire_names.specs.declared.error.DecodeError.TheVariants.{InsufficientBytes, Memory}

-- what is read from a place on, and the place behind it
abbrev pub Read : Type 0 → Type 0
Read A = Result (A × Cursor) DecodeError

infixl 10 ◌>>=◌
abbrev pub ◌>>=◌ : {A B : Type 0} → Result A DecodeError → (A → Result B DecodeError) → Result B DecodeError
(Ok x) >>= f = f x
(Err e) >>= f = Err e

-- An error is the first fault that reading meets, or want of memory.
abbrev pub Fails : {Y : Type 0} → DecodeError → Result Y DecodeError → Type 0
Fails e read = e ≢ Memory → read ≡ Err e

-- What a function returned, seen by view, is what reading gives, unless memory was refused. The bytes stay.
abbrev pub GivesSeenBy : {X Y : Type 0} → (X → Y) → Result X DecodeError → Cursor → Cursor → (Cursor → Read Y) → Type 0
GivesSeenBy view (Ok x) old new read = (read old ≡ Ok (view x, new)) × (new.bytes ≡ old.bytes)
GivesSeenBy view (Err e) old new read = Fails e (read old) × (new.bytes ≡ old.bytes)

-- the same where what was returned is itself what is read
abbrev pub Gives : {X : Type 0} → Result X DecodeError → Cursor → Cursor → (Cursor → Read X) → Type 0
Gives result old new read = GivesSeenBy (λ x. x) result old new read

-- the bytes from the place on
abbrev pub rest_of : Cursor → List ℕ
rest_of c = drop c.place c.bytes

abbrev pub moved : Cursor → ℕ → Cursor
moved c n = record c { place = c.place + n }

-- the next n bytes
abbrev pub octets : ℕ → Cursor → Read (List ℕ)
octets n c = if nat_lt (length (rest_of c)) n then Err InsufficientBytes else Ok (take n (rest_of c), moved c n)

-- a number of some bytes, the highest first
abbrev pub number : Width → Cursor → Read ℕ
number w c = if nat_lt (length (rest_of c)) (byte_len w) then Err InsufficientBytes else Ok (from_be_bytes w (take (byte_len w) (rest_of c)), moved c (byte_len w))
