-- What a crash may leave of a file, by the calls that were made.
use Rattle.std.specs.Prelude.{◌≡◌, ◌⊎◌, ◌+◌, ◌<◌, ◌≤◌, ℕ, List, [], ◌∷◌, length, slice_index}
use Rattle.sqlite_disk.specs.Disk.{Torn, Cut}
use Rattle.journal.specs.host_file.Calls.{HostCall, after_call}
use Rattle.journal.specs.host_file.Calls.HostCall.{pwrite, ftruncate, fdatasync}

-- while a call is made, where a crash before it could leave `earlier`: a write may be torn, a change of the length may
-- have come to any length between
abbrev pub Midst : HostCall → (List ℕ → Type 0) → List ℕ → Type 0
Midst (pwrite at bytes) earlier c = (d : List ℕ) × earlier d × Torn at (length bytes) d c
Midst (ftruncate len) earlier c = (d : List ℕ) × earlier d × Cut len d c
Midst fdatasync earlier c = earlier c

-- once it was made, of a file that held `file` before it: the same, but that a sync leaves what the file holds, and
-- nothing else
abbrev pub Behind : HostCall → List ℕ → (List ℕ → Type 0) → List ℕ → Type 0
Behind (pwrite at bytes) file earlier c = (d : List ℕ) × earlier d × Torn at (length bytes) d c
Behind (ftruncate len) file earlier c = (d : List ℕ) × earlier d × Cut len d c
Behind fdatasync file earlier c = c ≡ file

-- once all of these were made, of which the first comes first
abbrev pub CrashLeaves : (List ℕ → Type 0) → List ℕ → List HostCall → List ℕ → Type 0
CrashLeaves earlier file [] c = earlier c
CrashLeaves earlier file (call ∷ calls) c = CrashLeaves (Behind call file earlier) (after_call call file) calls c

-- n bytes from `at` on
abbrev pub Range : Type 0
Range = ℕ × ℕ

-- this place lies in none of these ranges
abbrev pub IsOutside : List Range → ℕ → Type 0
IsOutside [] i = Unit {0}
IsOutside (range ∷ ranges) i = ((i < range.0) ⊎ (range.0 + range.1 ≤ i)) × IsOutside ranges i

-- A length within these bounds, and the bytes of a file below the lower bound and outside of these ranges.
pub record IsAlike (kept most : ℕ) (ranges : List Range) (file c : List ℕ) : Type 0 where
  pub no_shorter : kept ≤ length c
  pub no_longer : length c ≤ most
  pub alike : (i : ℕ) → i < kept → IsOutside ranges i → slice_index c i ≡ slice_index file i

-- all that was written, or what is alike
abbrev pub MayLeave : ℕ → ℕ → List Range → List ℕ → List ℕ → Type 0
MayLeave kept most ranges file c = (c ≡ file) ⊎ IsAlike kept most ranges file c
