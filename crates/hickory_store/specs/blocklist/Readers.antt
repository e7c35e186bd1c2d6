-- What reading does to the bytes that a reader has left, where it tells them, and to its count of failures.
use Rattle.std.specs.Prelude.{◌≡◌, ◌+◌, ◌%◌, ◌^◌, ◌<◌, ℕ, List, length, take, Option, Result, Ok, Err}
use Rattle.std.specs.Result.{IfOk}
use Rattle.std.specs.Io.KnownBytes.{Consumes, IsAtEnd}
use Rattle.hickory_store.specs.declared.blocklist.handler.AddError.{AddError}
use Rattle.hickory_store.specs.declared.blocklist.handler.AddError.TheVariants.{Io, NotUtf8, Memory}

-- an `Ok` takes a front of the bytes, as many as it says, and none only at the end or for a slice that is empty
abbrev pub TakesFront : {E : Type 0} → Option (List ℕ) → Option (List ℕ) → Result ℕ E → List ℕ → Type 0
TakesFront old new result buffer = IfOk result (λ n. Consumes old new (take n buffer) × (n ≡ 0 → 0 < length buffer → IsAtEnd new))

-- the bytes that were left are these, and none is left now
pub record ReadsToEnd (old new : Option (List ℕ)) (bytes : List ℕ) : Type 0 where
  pub taken : Consumes old new bytes
  pub ended : IsAtEnd new

-- the error `Io` comes of one failure of the reader, and every other result of none
abbrev pub CountsIo : {T : Type 0} → Result T AddError → ℕ → ℕ → Type 0
CountsIo (Err Io) old new = new ≡ (old + 1) % 2 ^ 64
CountsIo (Err NotUtf8) old new = new ≡ old
CountsIo (Err Memory) old new = new ≡ old
CountsIo (Ok _) old new = new ≡ old

-- a reader with the number of its failures
pub record Counted (R : Type 0) : Type 0 where
  pub reader : R
  pub failures : ℕ
