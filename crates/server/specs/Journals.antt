-- Journals of zones, in files of the caller's, and what the caller is to do to these.
use Rattle.std.specs.Prelude.{◌≡◌, ◌⊎◌, ◌-◌, ◌++◌, ◌∷◌, [], ℕ, List, Option, Some, None, cond, drop, length, min, nat_eq, take}
use Rattle.std.specs.List.{slice_get}
use Rattle.wire_names.specs.rr.domain.DomainName.{DomainName}
use Rattle.wire_names.specs.rr.domain.NameOrder.{lower_name}
use Rattle.sqlite_disk.specs.declared.Disk.{Ghosts as DiskGhosts}
use Rattle.hickory_catalog.specs.zones.Zones.{ZoneChains}
use Rattle.journal.specs.host_file.Calls.{HostCall}
use Rattle.journal.specs.host_file.Calls.HostCall.{fdatasync, ftruncate, pwrite}
use Rattle.journal.specs.host_file.FileState.{FileState, of_bytes, owed}
use Rattle.journal.specs.contracts.host_file.file.HostFileDisk.TheImpl.{ghosts}
use Rattle.served_zones.specs.Journals.{OpensJournal, StopsAtOpening}
use Rattle.served_zones.specs.Operations.{AreFilesAt, Stops}
use Rattle.served_zones.specs.ServedZones.{IsApexText, ServedHandler}
use Rattle.server.specs.declared.journals.FileOperation.{FileOperation}

-- what is known of a file of the caller's as a disk
abbrev pub host_disks : DiskGhosts FileState
host_disks = ghosts

-- The journal of the zone of this name was opened in files 0 and 1, which held these bytes, and is the last of the
-- journals.
pub record IsOpened (text first second : List ℕ) (old new : ZoneChains ServedHandler) (journals_old journals_new : List DomainName) : Type 0 where
  pub apex : DomainName
  pub spelled : IsApexText text apex
  pub opens : OpensJournal host_disks (of_bytes 0 first) (of_bytes 1 second) (lower_name apex) old new
  pub last : journals_new ≡ journals_old ++ lower_name apex ∷ []

-- The journal of the zone of this name, in files 0 and 1 that held these bytes, was not opened. No zone changed, or the
-- journal could not be compacted: then the zone is as it says, and takes no updates.
abbrev pub StaysUnopened : List ℕ → List ℕ → List ℕ → ZoneChains ServedHandler → ZoneChains ServedHandler → Type 0
StaysUnopened text first second old new =
    (new ≡ old) ⊎ ((apex : DomainName) × IsApexText text apex × StopsAtOpening host_disks (of_bytes 0 first) (of_bytes 1 second) (lower_name apex) old new)

-- the calls that are owed to the file of this number, of the two files of a journal
abbrev pub owed_to_second : Option FileState → ℕ → List HostCall
owed_to_second None number = []
owed_to_second (Some file) number = cond (nat_eq file.name number) (owed file) []

abbrev pub owed_to : Option (FileState × Option FileState) → ℕ → List HostCall
owed_to None number = []
owed_to (Some files) number = cond (nat_eq files.0.name number) (owed files.0) (owed_to_second files.1 number)

-- The call of this number, from 0, that is owed to this file of the journal of the zone of this name, or none if there
-- are not so many.
pub record IsOwed (zones : ZoneChains ServedHandler) (apex : DomainName) (file number : ℕ) (call : Option HostCall) : Type 0 where
  pub files : Option (FileState × Option FileState)
  pub are_files : AreFilesAt host_disks zones apex files
  pub call_is : call ≡ slice_get (owed_to files file) number

abbrev pub IsOwedTo : ZoneChains ServedHandler → Option DomainName → ℕ → ℕ → Option HostCall → Type 0
IsOwedTo zones None file number call = call ≡ None
IsOwedTo zones (Some apex) file number call = IsOwed zones apex file number call

-- The zone of this name, if there is one, takes no updates from then on.
abbrev pub StopsAny : Option DomainName → ZoneChains ServedHandler → ZoneChains ServedHandler → Type 0
StopsAny None old new = new ≡ old
StopsAny (Some apex) old new = Stops apex old new

-- the bytes that a call writes
abbrev pub bytes_of : HostCall → List ℕ
bytes_of (pwrite at bytes) = bytes
bytes_of (ftruncate len) = []
bytes_of fdatasync = []

-- a call as C sees it
abbrev pub operation_of : HostCall → FileOperation
operation_of (pwrite at bytes) = record { kind = 0; at = at; count = length bytes }
operation_of (ftruncate len) = record { kind = 1; at = len; count = 0 }
operation_of fdatasync = record { kind = 2; at = 0; count = 0 }

-- A call is told, and of its bytes those from `from` on for which there is room.
pub record IsTold (call : HostCall) (from : ℕ) (operation : FileOperation) (written : ℕ) (out : List ℕ) : Type 0 where
  pub is : operation ≡ operation_of call
  pub count : written ≡ min (length (bytes_of call) - from) (length out)
  pub put : take written out ≡ take written (drop from (bytes_of call))
