-- How long the next run of a transfer's records is, as the program counts it.
use Rattle.std.specs.Prelude.{◌≡◌, ◌⊎◌, ◌+◌, ◌<◌, ◌≤◌, ℕ, List, length, take}
use Rattle.std.specs.List.{sum_by}
use Rattle.wire_messages.specs.serialize.writing.RecordSize.{full_size}
use Rattle.wire_messages.specs.declared.rr.rdata.RData.{RData}
use Rattle.wire_messages.specs.declared.rr.record.Record.{Record}

-- what a message of 65,535 bytes leaves behind so many, or 0 where these are more
pub record IsRoom (front room : ℕ) : Type 0 where
  pub left : front ≤ 65535 → front + room ≡ 65535
  pub none : 65535 < front → room ≡ 0

-- So many records are taken where there is so much room: as many as fit, and one at least, if there is one.
pub record IsRunLength (room : ℕ) (records : List (Record RData)) (len : ℕ) : Type 0 where
  pub within : len ≤ length records
  pub some : 1 ≤ length records → 1 ≤ len
  pub fits : (sum_by full_size (take len records) ≤ room) ⊎ (len ≤ 1)
  pub full : len < length records → room < sum_by full_size (take (len + 1) records)
