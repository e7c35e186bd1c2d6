-- Versions of a zone that entries of a journal tell of, and what led from them to the zone that all of the entries make
-- (RFC 1995).
use Rattle.std.specs.Prelude.{◌≡◌, ◌++◌, ℕ, List}
use Rattle.std.specs.List.{AllByRecursion}
use Rattle.hickory_base.specs.zone_store.ZoneAnswers.{MemoryZone}
use Rattle.sqlite_disk.specs.declared.Disk.{Ghosts as DiskGhosts}
use Rattle.zone_differences.specs.Versions.{AllLead}
use Rattle.zone_differences.specs.declared.difference.Difference.{Difference}
use Rattle.durable_updates.specs.Recorded.{AreRecovered}
use Rattle.durable_updates.specs.Snapshots.{Recalls}

-- The first of these entries make this version.
abbrev pub IsOnTheWay : (List (List ℕ) → MemoryZone → Type 0) → List (List ℕ) → MemoryZone → Type 0
IsOnTheWay makes entries version = (done : List (List ℕ)) × (rest : List (List ℕ)) × (entries ≡ done ++ rest) × makes done version

-- The differences, from whichever on, lead to the zone from versions that the first of these entries make.
pub record AreLed (makes : List (List ℕ) → MemoryZone → Type 0) (entries : List (List ℕ)) (history : List Difference) (zone : MemoryZone) : Type 0 where
  pub versions : List MemoryZone
  pub were : AllByRecursion (IsOnTheWay makes entries) versions
  pub lead : AllLead versions history zone

-- The zone is the one that the entries which count of two recovered disks make of the first; and the differences lead
-- to it from versions that the first of these entries make.
pub record AreFollowed {D : Type 0} (disks : DiskGhosts D) (first second : D) (base : MemoryZone) (history : List Difference) (new : MemoryZone) : Type 0 where
  pub recovered : AreRecovered disks first second base new
  pub led : AreLed (λ done version. Recalls done base version) recovered.entries history new
