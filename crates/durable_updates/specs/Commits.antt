-- What becomes of a batch that was judged, once it is to be written.
use Rattle.std.specs.Prelude.{◌≡◌, ℕ, List, map, IfErr, Result, Ok, Err}
use Rattle.wire_messages.specs.declared.rr.rdata.RData.{RData}
use Rattle.wire_messages.specs.declared.rr.record.Record.{Record}
use Rattle.wire_messages.specs.declared.rr.rr_key.RrKey.{RrKey}
use Rattle.hickory_base.specs.declared.errors.UpdateFault.{UpdateFault}
use Rattle.hickory_store.specs.updates.UpdatableZone.{UpdatableZone}
use Rattle.sqlite_disk.specs.declared.Disk.{Ghosts as DiskGhosts}
use Rattle.durable_updates.specs.Batches.{told_unwritten}
use Rattle.durable_updates.specs.DurableUpdates.{IsWriteFault, Told}
use Rattle.durable_updates.specs.Journalling.{JournalsAll, RefusesEntries}
use Rattle.durable_updates.specs.Runs.{Server}

-- It is told as it was judged, over the zone as it is; or taken back, and the zone has these sets.
abbrev pub IsToldAs : {V : Type 0} → Result (Unit {0}) UpdateFault → List (RrKey × List (Record RData)) → List Told → List Told → UpdatableZone V → UpdatableZone V → Type 0
IsToldAs (Ok done) before judged told old new = (told ≡ judged) × (new ≡ old)
IsToldAs (Err fault) before judged told old new = (told ≡ map (told_unwritten fault) judged) × (new ≡ record old { zone = record old.zone { sets = before } })

module _ {V D : Type 0} (disks : DiskGhosts D) where
  -- These entries are written to the journal, or not.
  pub record Commits (before : List (RrKey × List (Record RData))) (entries : List (List ℕ)) (judged told : List Told) (old new : Server V D) : Type 0 where
    pub written : Result (Unit {0}) UpdateFault
    pub is_told : IsToldAs written before judged told old.zone new.zone
    pub err : IfErr written (IsWriteFault (RefusesEntries new.journal.is_open entries))
    pub journals : JournalsAll disks.seen disks.may_leave written entries old.journal new.journal
