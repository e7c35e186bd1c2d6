-- Updates that are held and then written together are a batch.
use Rattle.std.specs.Prelude.{◌≡◌, ◌∷◌, ◌++◌, [], ℕ, Bool, List, map, Option, Result, Ok, Err}
use Rattle.wire_messages.specs.declared.rr.tsig.TSigResponseContext.{TSigResponseContext}
use Rattle.hickory_base.specs.requests.Requests.{ReceivedRequest, TimedRequest}
use Rattle.hickory_base.specs.declared.errors.UpdateFault.{UpdateFault}
use Rattle.hickory_store.specs.updates.UpdatableZone.{UpdatableZone}
use Rattle.hickory_store.specs.declared.updates.verifier.Verifier.{Ghosts}
use Rattle.sqlite_disk.specs.declared.Disk.{Ghosts as DiskGhosts}
use Rattle.journal.specs.JournalState.{JournalState}
use Rattle.durable_updates.specs.Batches.{AnswersRead, bytes_of, if_accepted, told_unwritten}
use Rattle.durable_updates.specs.DurableUpdates.{IsWriteFault, Told}
use Rattle.durable_updates.specs.Journalling.{JournalsAll, RefusesEntries}
use Rattle.durable_updates.specs.Runs.{ServesAll}

-- From this zone on requests, each at its moment, were made in memory, one after another, and told this; the entries of
-- those that were accepted wait: each step is the contract of `update_held`.
pub data AreHeld {V : Type 0} (by : Ghosts V) (first : UpdatableZone V) : List TimedRequest → List Told → UpdatableZone V → List (List ℕ) → Type 0 where
  none : AreHeld by first [] [] first []
  more : {requests : List TimedRequest} {told : List Told} {old new : UpdatableZone V} {before after : List (List ℕ)}
      (request : ReceivedRequest) (now : ℕ) (answer : Result Bool UpdateFault) (context : Option TSigResponseContext)
      → AreHeld by first requests told old before → AnswersRead by old (request, now) (answer, context) new → after ≡ before ++ bytes_of (if_accepted answer request [])
      → AreHeld by first (requests ++ (request, now) ∷ []) (told ++ (answer, context) ∷ []) new after

module _ {V D : Type 0} (by : Ghosts V) (disks : DiskGhosts D) where
  -- Once these entries are written, by the contract of `write_held`, the requests are answered as one batch.
  abbrev pub HeldAreABatch : Type 0
  HeldAreABatch =
      (requests : List TimedRequest) (told : List Told) (first ahead : UpdatableZone V) (entries : List (List ℕ)) (old new : JournalState D) (done : Unit {0})
      → AreHeld by first requests told ahead entries
      → JournalsAll disks.seen disks.may_leave {T = Unit {0}} {E = UpdateFault} (Ok done) entries old new
      → ServesAll by disks requests told (record { zone = first; journal = old }) (record { zone = ahead; journal = new })

  -- Where they are not, and nobody is answered, the journal is that of a batch which is not written, from which the
  -- next process recovers; so it is too where the process ends while it writes them.
  abbrev pub UnwrittenAreABatch : Type 0
  UnwrittenAreABatch =
      (requests : List TimedRequest) (told : List Told) (first ahead : UpdatableZone V) (entries : List (List ℕ)) (old new : JournalState D) (fault : UpdateFault)
      → AreHeld by first requests told ahead entries → IsWriteFault (RefusesEntries new.is_open entries) fault
      → JournalsAll disks.seen disks.may_leave {T = Unit {0}} {E = UpdateFault} (Err fault) entries old new
      → ServesAll by disks requests (map (told_unwritten fault) told) (record { zone = first; journal = old }) (record { zone = first; journal = new })
