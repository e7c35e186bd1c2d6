-- What is found in two files that a journal is in by turns.
use Rattle.std.specs.Prelude.{◌↔◌, ◌<◌, ℕ, cond, IsTrue, Vec, Ok}
use Rattle.std.specs.declared.alloc.Global.{Global}
use Rattle.sqlite_disk.specs.declared.Disk.{Ghosts as DiskGhosts}
use Rattle.journal.specs.Generations.{generation_of}
use Rattle.journal.specs.Read.{contents}
use Rattle.journal.specs.Recovery.{Recovers}
use Rattle.durable_updates.specs.declared.recovering.TwoRecovered.{TwoRecovered}

-- the entries of the file that counts
abbrev pub counting : TwoRecovered → Vec (Vec ℕ Global) Global
counting found = cond found.is_second found.second.entries found.first.entries

-- Each was recovered, and the second one counts exactly if its generation is higher.
pub record AreFound {D : Type 0} (disks : DiskGhosts D) (first second : D) (found : TwoRecovered) (first_opened second_opened : D) : Type 0 where
  pub first_recovers : Recovers disks.seen disks.may_leave disks.is_clean first (Ok found.first) first_opened
  pub second_recovers : Recovers disks.seen disks.may_leave disks.is_clean second (Ok found.second) second_opened
  pub counts : IsTrue found.is_second ↔ (generation_of (contents found.first.entries.items) < generation_of (contents found.second.entries.items))
