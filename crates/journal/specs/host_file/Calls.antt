-- The calls of the operating system by which a file is changed, and what the file holds after them.
use Rattle.std.specs.Prelude.{ℕ, List, [], ◌∷◌, map}
use Rattle.sqlite_disk.specs.Events.{overlaid, padded}
use Rattle.journal.specs.declared.host_file.operation.Operation.{Operation}
use Rattle.journal.specs.declared.host_file.operation.Operation.TheVariants.{Write, SetLen, Sync}

pub data HostCall : Type 0 where
  pwrite : ℕ → List ℕ → HostCall
  ftruncate : ℕ → HostCall
  fdatasync : HostCall

abbrev pub call_of : Operation → HostCall
call_of (Write at bytes) = pwrite at bytes.items
call_of (SetLen len) = ftruncate len
call_of Sync = fdatasync

abbrev pub calls_of : List Operation → List HostCall
calls_of operations = map call_of operations

-- What a file holds after a call. A write of no bytes does nothing; another one puts zeros between the end of the file
-- and its place.
abbrev pub after_call : HostCall → List ℕ → List ℕ
after_call (pwrite at []) file = file
after_call (pwrite at (byte ∷ bytes)) file = overlaid file at (byte ∷ bytes)
after_call (ftruncate len) file = padded file len
after_call fdatasync file = file

-- what it holds after calls, of which the first comes first
abbrev pub after : List ℕ → List HostCall → List ℕ
after file [] = file
after file (call ∷ calls) = after (after_call call file) calls
