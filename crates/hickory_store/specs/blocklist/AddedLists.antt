-- What adding a list does.
use Rattle.std.specs.Prelude.{◌≡◌, ◌⊎◌, ℕ, List, Option, Result, Ok, Err}
use Rattle.std.specs.Str.{IsUtf8}
use Rattle.std.specs.Str.Lines.{lines}
use Rattle.wire_names.specs.rr.domain.DomainName.{DomainName}
use Rattle.hickory_store.specs.blocklist.Entries.{AddsLines, AddsFirstLines}
use Rattle.hickory_store.specs.blocklist.Readers.{ReadsToEnd}
use Rattle.hickory_store.specs.declared.blocklist.handler.AddError.{AddError}
use Rattle.hickory_store.specs.declared.blocklist.handler.AddError.TheVariants.{Io, NotUtf8, Memory}

-- the reader was read to its end, and gave these bytes, which are text; of a reader that does not tell what it has
-- left, any bytes will do
pub record ReadsText (left after : Option (List ℕ)) (bytes : List ℕ) : Type 0 where
  pub whole : ReadsToEnd left after bytes
  pub utf8 : IsUtf8 bytes

-- After an `Ok` the reader is at its end, and the entries are the old ones and the names that the lines of the whole
-- text list. After an error the entries are as they were; only where memory was refused, what a front of the lines
-- lists may have been added.
abbrev pub Adds : Result (Unit {0}) AddError → Option (List ℕ) → Option (List ℕ) → List DomainName → List DomainName → Type 0
Adds (Ok _) left after old new = (bytes : List ℕ) × ReadsText left after bytes × AddsLines old (lines bytes) new
Adds (Err Io) left after old new = new ≡ old
Adds (Err NotUtf8) left after old new = (new ≡ old) × ((bytes : List ℕ) × ReadsToEnd left after bytes × ¬ (IsUtf8 bytes))
Adds (Err Memory) left after old new = (new ≡ old) ⊎ ((bytes : List ℕ) × ReadsText left after bytes × AddsFirstLines old (lines bytes) new)
