-- What a contract sees of a file of a host, and what each call makes of it.
use Rattle.std.specs.Prelude.{ℕ, ◌+◌, ◌-◌, ◌^◌, ◌≤◌, min, max, Bool, true, false, cond, List, [], ◌∷◌, ◌++◌, length, drop}
use Rattle.sqlite_disk.specs.Events.{overlaid, padded}
use Rattle.journal.specs.host_file.Calls.{HostCall}
use Rattle.journal.specs.host_file.Calls.HostCall.{pwrite, ftruncate, fdatasync}
use Rattle.journal.specs.host_file.Crashes.{Range, MayLeave}

pub record FileState : Type 0 where
  -- by which its owner knows it
  pub name : ℕ
  -- what a read returns: what the file holds once the calls were made
  pub seen : List ℕ
  -- calls that were noted, of which the first comes first, and how many of them were made
  pub noted : List HostCall
  pub made : ℕ
  -- bounds of the lengths that a crash may leave
  pub kept : ℕ
  pub most : ℕ
  -- no sync was refused
  pub usable : Bool
  pub faults : ℕ
  pub caught : ℕ

-- the ranges of the writes that no sync follows, behind some others
abbrev pub unsynced_from : List Range → List HostCall → List Range
unsynced_from ranges [] = ranges
unsynced_from ranges (pwrite at bytes ∷ calls) = unsynced_from ((at, length bytes) ∷ ranges) calls
unsynced_from ranges (ftruncate len ∷ calls) = unsynced_from ranges calls
unsynced_from ranges (fdatasync ∷ calls) = unsynced_from [] calls

abbrev pub unsynced : List HostCall → List Range
unsynced calls = unsynced_from [] calls

-- what a crash may leave of the file
abbrev pub may_leave : FileState → List ℕ → Type 0
may_leave f c = MayLeave f.kept f.most (unsynced f.noted) f.seen c

-- the calls that are owed
abbrev pub owed : FileState → List HostCall
owed f = drop f.made f.noted

abbrev pub IsSound : FileState → Type 0
IsSound f = (f.kept ≤ length f.seen) × (length f.seen ≤ f.most) × (f.made ≤ length f.noted)

-- a file that holds these bytes, and has them on the disk
abbrev pub of_bytes : ℕ → List ℕ → FileState
of_bytes name bytes = record { name = name; seen = bytes; noted = []; made = 0; kept = length bytes; most = length bytes; usable = true; faults = 0; caught = 0 }

-- A write of no bytes owes nothing.
abbrev pub written : ℕ → List ℕ → FileState → FileState
written at [] f = f
written at (byte ∷ bytes) f =
    record f { seen = overlaid f.seen at (byte ∷ bytes); noted = f.noted ++ pwrite at (byte ∷ bytes) ∷ []; most = max f.most (at + length (byte ∷ bytes)) }

abbrev pub resized : ℕ → FileState → FileState
resized len f = record f { seen = padded f.seen len; noted = f.noted ++ ftruncate len ∷ []; kept = min f.kept len; most = max f.most len }

abbrev pub synced : FileState → FileState
synced f = record f { noted = f.noted ++ fdatasync ∷ []; kept = length f.seen; most = length f.seen }

-- memory was refused, so nothing is owed
abbrev pub refused : FileState → FileState
refused f = record f { faults = min (f.faults + 1) (2 ^ 64 - 1) }

abbrev pub sync_refused : FileState → FileState
sync_refused f = record (refused f) { usable = false }

-- a test that bytes failed
abbrev pub test_failed : FileState → FileState
test_failed f = record (refused f) { caught = min (f.caught + 1) (2 ^ 64 - 1) }

abbrev pub is_sync : HostCall → Bool
is_sync (pwrite at bytes) = false
is_sync (ftruncate len) = false
is_sync fdatasync = true

-- there is none, or a sync comes last
abbrev pub ends_synced : List HostCall → Bool
ends_synced [] = true
ends_synced (call ∷ []) = is_sync call
ends_synced (call ∷ next ∷ calls) = ends_synced (next ∷ calls)

-- All that was owed is made. What was noted is forgotten where a sync comes last.
abbrev pub all_made : FileState → FileState
all_made f = record f { noted = cond (ends_synced f.noted) [] f.noted; made = cond (ends_synced f.noted) 0 (length f.noted) }
