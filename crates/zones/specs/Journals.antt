-- A zone whose journal was opened.
use Rattle.std.specs.Prelude.{◌≡◌, [], true, false}
use Rattle.sqlite_disk.specs.declared.Disk.{Ghosts as DiskGhosts}
use Rattle.durable_updates.specs.Versions.{AreFollowed}
use Rattle.zones.specs.ZoneStates.{ZoneState}

-- The journal in two files makes the zone of what it was before, and the zone has this journal from then on. The
-- differences that it keeps lead to it from versions that the journal tells of. Its settings and its rules stay.
pub record IsOpened {V D : Type 0} (disks : DiskGhosts D) (first second : D) (old new : ZoneState V) : Type 0 where
  pub followed : AreFollowed disks first second old.updatable.zone new.history new.updatable.zone
  pub others : new ≡ record old { updatable = record old.updatable { zone = new.updatable.zone }; is_journalled = true; holds = false; history = new.history }

-- The journal was opened, and then the zone was stopped: it is as the journal says, and takes no updates.
abbrev pub IsStopped : {V D : Type 0} → DiskGhosts D → D → D → ZoneState V → ZoneState V → Type 0
IsStopped {V} disks first second old new = (opened : ZoneState V) × IsOpened disks first second old opened × (new ≡ record opened { policy = [] })
