-- The last differences of a zone, the oldest first.
use Rattle.std.specs.Prelude.{◌≡◌, ◌⊎◌, ◌++◌, ◌∷◌, ◌==◌, ℕ, cond, List, [], Some}
use Rattle.hickory_base.specs.zone_store.ZoneAnswers.{MemoryZone, soa_serial}
use Rattle.zone_differences.specs.Differences.{IsDifferenceOf}
use Rattle.zone_differences.specs.declared.difference.Difference.{Difference}

abbrev pub or_else : List Difference → List Difference → List Difference
or_else [] others = others
or_else (difference ∷ differences) others = difference ∷ differences

-- The differences from the last on that leads from a version of this serial (RFC 1995 section 3); none where none does.
-- Of versions of one number a client is taken to have the newest: since an older one the serial went all the way round,
-- and serials tell nothing of who did not ask all that time (RFC 1982 section 3.2).
abbrev pub since : ℕ → List Difference → List Difference
since serial [] = []
since serial (difference ∷ differences) =
    or_else (since serial differences) (cond (soa_serial (Some difference.old_soa) == serial) (difference ∷ differences) [])

-- These differences were put last, and of all that there were then the oldest were given up, or all.
abbrev pub IsFollowed : List Difference → List Difference → List Difference → Type 0
IsFollowed old more new = (given_up : List Difference) × (old ++ more ≡ given_up ++ new)

-- What leads from the one zone to the other is put last, and of all that led to the first the oldest may be given up;
-- or all is given up.
abbrev pub IsRecorded : MemoryZone → MemoryZone → List Difference → List Difference → Type 0
IsRecorded old new before after = (after ≡ []) ⊎ ((difference : Difference) × IsDifferenceOf old new difference × IsFollowed before (difference ∷ []) after)

-- So it is where the zone changed; where it did not, what led to it stays.
abbrev pub IsKeptUp : MemoryZone → MemoryZone → List Difference → List Difference → Type 0
IsKeptUp old new before after = ((new ≡ old) × (after ≡ before)) ⊎ IsRecorded old new before after
