-- Lives of a process that serves one zone with its journal: each begins with what stands in the file, and ends with a
-- crash.
use Rattle.std.specs.Prelude.{◌≡◌, ◌⊎◌, ◌≤◌, ℕ, Bool, true, false, IsTrue, List, [], ◌∷◌, ◌++◌, length, Option, Result, Ok, Err, OnErr, OnOk}
use Rattle.wire_messages.specs.declared.rr.tsig.TSigResponseContext.{TSigResponseContext}
use Rattle.hickory_base.specs.requests.Requests.{ReceivedRequest, TimedRequest}
use Rattle.hickory_base.specs.requests.Updates.{update_of}
use Rattle.hickory_base.specs.zone_store.ZoneAnswers.{MemoryZone}
use Rattle.hickory_base.specs.declared.errors.UpdateFault.{UpdateFault}
use Rattle.hickory_store.specs.updates.UpdatableZone.{UpdatableZone}
use Rattle.hickory_store.specs.declared.updates.verifier.Verifier.{Ghosts}
use Rattle.sqlite_disk.specs.Disk.{Only}
use Rattle.sqlite_disk.specs.declared.Disk.{Ghosts as DiskGhosts}
use Rattle.journal.specs.Frames.{StandsFor}
use Rattle.journal.specs.JournalState.{JournalState}
use Rattle.journal.specs.Read.{contents}
use Rattle.journal.specs.Recovery.{Recovers}
use Rattle.journal.specs.declared.reading.Recovered.{Recovered}
use Rattle.journal.specs.declared.error.RecoverError.{RecoverError}
use Rattle.durable_updates.specs.Batches.{AnswersBatch, accepted, bytes_of}
use Rattle.durable_updates.specs.DurableUpdates.{AnswersDurably, IsAccepted, Told}
use Rattle.durable_updates.specs.Journalling.{Journals, JournalsAll, RefusesEntries, RefusesRequest}
use Rattle.durable_updates.specs.ReadRequests.{IsRead, those_read}
use Rattle.durable_updates.specs.Redone.{Makes, Redone}

-- What a process did from its start to its end: the requests that it acknowledged, in their order; and those of one
-- call, if any, that are in doubt together: the journal failed with them, or the process ended while it was at them.
-- Each was read from its bytes: no other is accepted, or written.
pub record Life : Type 0 where
  pub acknowledged : List ReceivedRequest
  pub in_doubt : List ReceivedRequest

-- as it begins
abbrev pub unused : Life
unused = record { acknowledged = []; in_doubt = [] }

-- these requests are in doubt, unless others are already
abbrev pub doubted : List ReceivedRequest → List ReceivedRequest → List ReceivedRequest
doubted [] requests = requests
doubted (first ∷ others) requests = first ∷ others

-- Once requests that are written together were answered: with Ok they are acknowledged; with an error they were
-- refused, or are in doubt where the journal takes no entry any more.
abbrev pub after_answer : {T : Type 0} → Life → List ReceivedRequest → Result T UpdateFault → Bool → Life
after_answer life requests (Ok told) is_open = record life { acknowledged = life.acknowledged ++ requests }
after_answer life requests (Err fault) true = life
after_answer life requests (Err fault) false = record life { in_doubt = doubted life.in_doubt requests }

-- where the process ended while it was at these requests
abbrev pub cut_short : Life → List ReceivedRequest → Life
cut_short life requests = record life { in_doubt = doubted life.in_doubt requests }

-- The entries that lives, the last of them first, may leave: behind those of the lives before it, of each all that it
-- acknowledged, and then what is in doubt, whole or not at all.
abbrev pub MayStand : List Life → List (List ℕ) → Type 0
MayStand [] entries = entries ≡ []
MayStand (life ∷ earlier) entries =
    (before : List (List ℕ)) × MayStand earlier before
    × ((entries ≡ before ++ bytes_of life.acknowledged) ⊎ (entries ≡ (before ++ bytes_of life.acknowledged) ++ bytes_of life.in_doubt))

-- Of no life more than so many requests are in doubt.
abbrev pub AtMostInDoubt : ℕ → List Life → Type 0
AtMostInDoubt most [] = Unit {0}
AtMostInDoubt most (life ∷ earlier) = (length life.in_doubt ≤ most) × AtMostInDoubt most earlier

-- a zone with its journal
pub record Server (V D : Type 0) : Type 0 where
  pub zone : UpdatableZone V
  pub journal : JournalState D

module _ {V D : Type 0} (by : Ghosts V) (disks : DiskGhosts D) where
  -- A request is answered: the contract of `update_durably`.
  pub record ServesOne (request : ReceivedRequest) (now : ℕ) (answer : Result Bool UpdateFault) (context : Option TSigResponseContext) (old new : Server V D) : Type 0 where
    pub answers : AnswersDurably (IsAccepted by old.zone (request, now) × RefusesRequest new.journal.is_open request) by old.zone (request, now) (answer, context) new.zone
    pub read : request.was_read ≡ true → IsRead request
    pub accepted : OnOk answer (request.was_read ≡ true)
    pub unread : request.was_read ≡ false → new.journal ≡ old.journal
    pub made : OnOk answer (Makes (update_of request.message).updates old.zone.zone new.zone.zone)
    pub kept : OnErr answer (new.zone ≡ old.zone)
    pub journals : Journals disks.seen disks.may_leave answer request.bytes old.journal new.journal

  -- Requests, each at its moment, are answered as one batch: the contract of `update_all_durably`.
  pub record ServesAll (requests : List TimedRequest) (told : List Told) (old new : Server V D) : Type 0 where
    pub answers : AnswersBatch (RefusesEntries new.journal.is_open) by requests told old.zone new.zone
    pub journals : JournalsAll disks.seen disks.may_leave answers.written (bytes_of (accepted requests answers.judged)) old.journal new.journal

  -- A disk has this file, and nothing else, as after a crash; its recovery answers so, and the disk told no lie: the
  -- contract of `recover`.
  pub record Opens (file : List ℕ) (result : Result Recovered RecoverError) (opened : D) : Type 0 where
    pub disk : D
    pub there : disks.seen disk ≡ file
    pub restarted : Only (disks.seen disk) (disks.may_leave disk)
    pub recovers : Recovers disks.seen disks.may_leave disks.is_clean disk result opened
    pub clean : IsTrue (disks.is_clean opened)

  -- The server starts on the file: its journal is recovered, and the entries are done again to the zone that was there
  -- before the first of them: the contracts of `recover`, `Journal::new` and `redo`.
  pub record Starts (base : MemoryZone) (file : List ℕ) (server : Server V D) : Type 0 where
    pub opened : D
    pub found : Recovered
    pub opens : Opens file (Ok found) opened
    pub journal : server.journal ≡ record { disk = opened; end = found.end; is_open = true }
    pub redone : Redone (contents found.entries.items) base server.zone.zone

  -- From its first state on the server has answered requests, one after another, each at its moment, or in batches of
  -- so many at most.
  pub data Serves (most : ℕ) (first : Server V D) : Life → Server V D → Type 0 where
    begun : Serves most first unused first
    answered : {life : Life} {old new : Server V D} (request : ReceivedRequest) (now : ℕ) (answer : Result Bool UpdateFault) (context : Option TSigResponseContext)
        → Serves most first life old → ServesOne request now answer context old new
        → Serves most first (after_answer life (those_read (request ∷ [])) answer new.journal.is_open) new
    answered_all : {life : Life} {old new : Server V D} (requests : List TimedRequest) (told : List Told)
        → Serves most first life old → length requests ≤ most → (all : ServesAll requests told old new)
        → Serves most first (after_answer life (accepted requests all.answers.judged) all.answers.written new.journal.is_open) new

  -- A life begins with one file, and a crash leaves another: while the server started, or between two calls, or while
  -- it was at one request or at a batch, at any moment of the call.
  pub data IsLife (most : ℕ) (base : MemoryZone) (file : List ℕ) : Life → List ℕ → Type 0 where
    while_starting : {next : List ℕ} {result : Result Recovered RecoverError} {opened : D} → Opens file result opened → disks.may_leave opened next → IsLife most base file unused next
    between_requests : {next : List ℕ} {life : Life} {first server : Server V D} → Starts base file first → Serves most first life server → disks.may_leave server.journal.disk next
        → IsLife most base file life next
    within_request : {next : List ℕ} {life : Life} {first old new : Server V D} (request : ReceivedRequest) (now : ℕ) (answer : Result Bool UpdateFault) (context : Option TSigResponseContext)
        → Starts base file first → Serves most first life old → ServesOne request now answer context old new → disks.may_leave new.journal.disk next
        → IsLife most base file (cut_short life (those_read (request ∷ []))) next
    within_batch : {next : List ℕ} {life : Life} {first old new : Server V D} (requests : List TimedRequest) (told : List Told)
        → Starts base file first → Serves most first life old → length requests ≤ most → (all : ServesAll requests told old new)
        → disks.may_leave new.journal.disk next
        → IsLife most base file (cut_short life (accepted requests all.answers.judged)) next

  -- Lives, the last first, and the file that they left. Before the first the file is empty.
  pub data Run (most : ℕ) (base : MemoryZone) : List Life → List ℕ → Type 0 where
    unborn : Run most base [] []
    lived : {lives : List Life} {file next : List ℕ} {life : Life} → Run most base lives file → IsLife most base file life next → Run most base (life ∷ lives) next

  -- After a run the file stands for what its lives may leave. A server that starts on it has the zone that these
  -- entries make of the first zone; and while it serves, the zone of these and of the requests that it has acknowledged
  -- since.
  pub record IsKept (most : ℕ) (base : MemoryZone) (lives : List Life) (file : List ℕ) : Type 0 where
    pub stands : (entries : List (List ℕ)) × StandsFor file entries × MayStand lives entries
    pub few_in_doubt : AtMostInDoubt most lives
    pub served : (first server : Server V D) (life : Life) → Starts base file first → Serves most first life server
        → (entries : List (List ℕ)) × StandsFor file entries × MayStand lives entries
        × Redone entries base first.zone.zone × Redone (entries ++ bytes_of life.acknowledged) base server.zone.zone

  -- Where batches have so many requests at most, and that is 1 where there are none.
  abbrev pub RunsAreKept : Type 0
  RunsAreKept = (most : ℕ) → 1 ≤ most → (base : MemoryZone) (lives : List Life) (file : List ℕ) → Run most base lives file → IsKept most base lives file
