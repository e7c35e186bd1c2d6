-- Lives of a process that serves one zone with its journal in two files by turns, and compacts it now and then.
use Rattle.std.specs.Prelude.{◌≡◌, ◌⊎◌, ◌+◌, ◌≤◌, ◌^◌, ℕ, Bool, not, cond, true, IsTrue, List, [], ◌∷◌, ◌++◌, length, Option, Result, Ok, Err}
use Rattle.wire_messages.specs.declared.rr.tsig.TSigResponseContext.{TSigResponseContext}
use Rattle.hickory_base.specs.requests.Requests.{ReceivedRequest, TimedRequest}
use Rattle.hickory_base.specs.zone_store.ZoneAnswers.{MemoryZone}
use Rattle.hickory_base.specs.zone_store.ZoneSets.{zone_records}
use Rattle.hickory_base.specs.declared.errors.UpdateFault.{UpdateFault}
use Rattle.hickory_store.specs.updates.Identity.{SameZone}
use Rattle.hickory_store.specs.updates.UpdatableZone.{UpdatableZone}
use Rattle.hickory_store.specs.updates.UpdateLaws.{HasOneSoa, HoldsIn}
use Rattle.hickory_store.specs.declared.updates.verifier.Verifier.{Ghosts}
use Rattle.sqlite_disk.specs.Disk.{Only}
use Rattle.sqlite_disk.specs.declared.Disk.{Ghosts as DiskGhosts}
use Rattle.journal.specs.Generations.{StandFor, generation_of}
use Rattle.journal.specs.JournalState.{JournalState}
use Rattle.journal.specs.Read.{contents}
use Rattle.durable_updates.specs.Batches.{accepted, bytes_of}
use Rattle.durable_updates.specs.DurableUpdates.{Told}
use Rattle.durable_updates.specs.Compactions.{Compacts, Files}
use Rattle.durable_updates.specs.Recorded.{IsHandedBack}
use Rattle.durable_updates.specs.Recovering.{AreFound, counting}
use Rattle.durable_updates.specs.Redone.{Redone}
use Rattle.durable_updates.specs.ReadRequests.{those_read}
use Rattle.durable_updates.specs.Runs.{AtMostInDoubt, Life, MayStand, Server, ServesAll, ServesOne, after_answer, cut_short, unused}
use Rattle.durable_updates.specs.Snapshots.{Recalls}
use Rattle.durable_updates.specs.declared.compaction.CompactError.{CompactError}
use Rattle.durable_updates.specs.declared.recovering.TwoRecovered.{TwoRecovered}

-- what two files hold
pub record OnDisk : Type 0 where
  pub first : List ℕ
  pub second : List ℕ

-- a zone with its journal and the file that it is compacted into next; whether the journal is in the second file; and
-- the generation that it has once it is compacted
pub record PairServer (V D : Type 0) : Type 0 where
  pub zone : UpdatableZone V
  pub files : Files D
  pub is_second : Bool
  pub generation : ℕ

-- the same without the spare file
abbrev pub server_of : {V D : Type 0} → PairServer V D → Server V D
server_of server = record { zone = server.zone; journal = server.files.journal }

-- the journal of the first file, and of the second
abbrev pub first_of : {V D : Type 0} → PairServer V D → JournalState D
first_of server = cond server.is_second server.files.spare server.files.journal

abbrev pub second_of : {V D : Type 0} → PairServer V D → JournalState D
second_of server = cond server.is_second server.files.journal server.files.spare

-- all but the zone and the journal is as before
pub record SameSpare {V D : Type 0} (old new : PairServer V D) : Type 0 where
  pub spare : new.files.spare ≡ old.files.spare
  pub is_second : new.is_second ≡ old.is_second
  pub generation : new.generation ≡ old.generation

-- Once the journal was compacted it is in the other file, and has a generation more to give.
abbrev pub Turns : Result (Unit {0}) CompactError → Bool → ℕ → Bool → ℕ → Type 0
Turns (Ok done) was_second generation is_second next = (is_second ≡ not was_second) × (next ≡ generation + 1)
Turns (Err e) was_second generation is_second next = (is_second ≡ was_second) × (next ≡ generation)

-- The requests, done one after another, make this zone of the first one, up to the order of its records.
pub record IsMadeBy (requests : List (List ℕ)) (base zone : MemoryZone) : Type 0 where
  pub made : MemoryZone
  pub redone : Redone requests base made
  pub same : SameZone (zone_records zone.sets) (zone_records made.sets)
  pub others : zone ≡ record made { sets = zone.sets }

-- Whatever the entries make of the first zone, these requests make it.
abbrev pub Mean : List (List ℕ) → MemoryZone → List (List ℕ) → Type 0
Mean entries base requests = (zone : MemoryZone) → Recalls entries base zone → IsMadeBy requests base zone

module _ {V D : Type 0} (by : Ghosts V) (disks : DiskGhosts D) where
  -- The files that a crash leaves.
  pub record MayLeave (server : PairServer V D) (next : OnDisk) : Type 0 where
    pub first : disks.may_leave (first_of server).disk next.first
    pub second : disks.may_leave (second_of server).disk next.second

  -- Two disks have these files, and nothing else, as after a crash.
  pub record AreDisks (at : OnDisk) (first second : D) : Type 0 where
    pub first_there : disks.seen first ≡ at.first
    pub second_there : disks.seen second ≡ at.second
    pub first_restarted : Only (disks.seen first) (disks.may_leave first)
    pub second_restarted : Only (disks.seen second) (disks.may_leave second)

  -- a journal that was recovered
  abbrev pub opened : D → ℕ → JournalState D
  opened disk end = record { disk = disk; end = end; is_open = true }

  -- the files of a server, once they were recovered
  abbrev pub files_of : TwoRecovered → D → D → Files D
  files_of found first second =
      cond found.is_second (record { journal = opened second found.second.end; spare = opened first found.first.end }) (record { journal = opened first found.first.end; spare = opened second found.second.end })

  -- The server starts on the files: they are recovered, and the entries that count are done to the zone that was there
  -- before the first of them, where the disks told no lie: the contracts of `recover_two`, `recall` and
  -- `JournalledZone::of_two`. The next generation is one more than that of the journal, or the last one.
  pub record StartsTwo (base : MemoryZone) (at : OnDisk) (server : PairServer V D) : Type 0 where
    pub disk : D
    pub other_disk : D
    pub are : AreDisks at disk other_disk
    pub first : D
    pub second : D
    pub found : TwoRecovered
    pub found_so : AreFound disks disk other_disk found first second
    pub first_clean : IsTrue (disks.is_clean first)
    pub second_clean : IsTrue (disks.is_clean second)
    pub files : server.files ≡ files_of found first second
    pub is_second : server.is_second ≡ found.is_second
    pub next : (server.generation ≡ generation_of (contents (counting found).items) + 1) ⊎ (server.generation + 1 ≡ 2 ^ 64)
    pub recalls : Recalls (contents (counting found).items) base server.zone.zone

  -- The journal is compacted, or an attempt at it is made: the contract of `compact`.
  pub record CompactsOnce (result : Result (Unit {0}) CompactError) (old new : PairServer V D) : Type 0 where
    pub compacts : Compacts disks old.zone.zone old.generation old.files result new.files
    pub zone : new.zone ≡ old.zone
    pub turns : Turns result old.is_second old.generation new.is_second new.generation

  -- From its first state on the server has answered requests, one after another or in batches of so many at most, and
  -- has compacted its journal in between.
  pub data ServesTwo (most : ℕ) (first : PairServer V D) : Life → PairServer V D → Type 0 where
    begun : ServesTwo most first unused first
    answered : {life : Life} {old new : PairServer V D} (request : ReceivedRequest) (now : ℕ) (answer : Result Bool UpdateFault) (context : Option TSigResponseContext)
        → ServesTwo most first life old → ServesOne by disks request now answer context (server_of old) (server_of new) → SameSpare old new
        → ServesTwo most first (after_answer life (those_read (request ∷ [])) answer new.files.journal.is_open) new
    answered_all : {life : Life} {old new : PairServer V D} (requests : List TimedRequest) (told : List Told)
        → ServesTwo most first life old → length requests ≤ most → (all : ServesAll by disks requests told (server_of old) (server_of new)) → SameSpare old new
        → ServesTwo most first (after_answer life (accepted requests all.answers.judged) all.answers.written new.files.journal.is_open) new
    compacted : {life : Life} {old new : PairServer V D} (result : Result (Unit {0}) CompactError) → ServesTwo most first life old → CompactsOnce result old new → ServesTwo most first life new

  -- A life begins with two files, and a crash leaves others: while the server started, or between two calls, or while
  -- it was at one request, at a batch or at a compaction, at any moment of the call.
  pub data IsLifeOfTwo (most : ℕ) (base : MemoryZone) (at : OnDisk) : Life → OnDisk → Type 0 where
    while_starting : {next : OnDisk} {disk other_disk first second : D} → AreDisks at disk other_disk → IsHandedBack disks disk first → IsHandedBack disks other_disk second
        → IsTrue (disks.is_clean first) → IsTrue (disks.is_clean second) → disks.may_leave first next.first → disks.may_leave second next.second → IsLifeOfTwo most base at unused next
    between_calls : {next : OnDisk} {life : Life} {first server : PairServer V D} → StartsTwo base at first → ServesTwo most first life server → MayLeave server next
        → IsLifeOfTwo most base at life next
    within_request : {next : OnDisk} {life : Life} {first old new : PairServer V D} (request : ReceivedRequest) (now : ℕ) (answer : Result Bool UpdateFault) (context : Option TSigResponseContext)
        → StartsTwo base at first → ServesTwo most first life old → ServesOne by disks request now answer context (server_of old) (server_of new) → SameSpare old new → MayLeave new next
        → IsLifeOfTwo most base at (cut_short life (those_read (request ∷ []))) next
    within_batch : {next : OnDisk} {life : Life} {first old new : PairServer V D} (requests : List TimedRequest) (told : List Told)
        → StartsTwo base at first → ServesTwo most first life old → length requests ≤ most → (all : ServesAll by disks requests told (server_of old) (server_of new))
        → SameSpare old new → MayLeave new next → IsLifeOfTwo most base at (cut_short life (accepted requests all.answers.judged)) next
    within_compaction : {next : OnDisk} {life : Life} {first old new : PairServer V D} (result : Result (Unit {0}) CompactError)
        → StartsTwo base at first → ServesTwo most first life old → CompactsOnce result old new → MayLeave new next → IsLifeOfTwo most base at life next

  -- Lives, the last first, and the files that they left. Before the first both are empty.
  pub data RunOfTwo (most : ℕ) (base : MemoryZone) : List Life → OnDisk → Type 0 where
    unborn : RunOfTwo most base [] (record { first = []; second = [] })
    lived : {lives : List Life} {at next : OnDisk} {life : Life} → RunOfTwo most base lives at → IsLifeOfTwo most base at life next → RunOfTwo most base (life ∷ lives) next

  -- The files stand for entries that make the zone which requests make that the lives may leave.
  pub record StandForRequests (base : MemoryZone) (lives : List Life) (at : OnDisk) : Type 0 where
    pub entries : List (List ℕ)
    pub requests : List (List ℕ)
    pub stand : StandFor at.first at.second entries
    pub may : MayStand lives requests
    pub mean : Mean entries base requests

  -- After a run the files stand for what its lives may leave, be it compacted or not: of each all that it acknowledged,
  -- in their order, and then what was in doubt, whole or not at all. A server that starts on them has the zone that
  -- these requests make of the first zone; and while it serves, the zone of these and of the requests that it has
  -- acknowledged since.
  pub record AreKept (most : ℕ) (base : MemoryZone) (lives : List Life) (at : OnDisk) : Type 0 where
    pub stands : StandForRequests base lives at
    pub few_in_doubt : AtMostInDoubt most lives
    pub served : (first server : PairServer V D) (life : Life) → StartsTwo base at first → ServesTwo most first life server
        → (requests : List (List ℕ)) × MayStand lives requests × IsMadeBy requests base first.zone.zone × IsMadeBy (requests ++ bytes_of life.acknowledged) base server.zone.zone

  -- The first zone has one SOA at its apex. Where batches have so many requests at most, and that is 1 where there are
  -- none.
  abbrev pub CompactedRunsAreKept : Type 0
  CompactedRunsAreKept = (most : ℕ) → 1 ≤ most → (base : MemoryZone) (lives : List Life) (at : OnDisk) → HoldsIn HasOneSoa base → RunOfTwo most base lives at → AreKept most base lives at
