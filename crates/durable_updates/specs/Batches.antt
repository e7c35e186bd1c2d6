-- Requests that are answered as one batch: they are judged one after another, what they ask for is written together,
-- and then they are answered.
use Rattle.std.specs.Prelude.{◌≡◌, ℕ, false, List, [], ◌∷◌, map, IfErr, OnOk, Result, Ok, Err}
use Rattle.hickory_base.specs.requests.Requests.{ReceivedRequest, TimedRequest}
use Rattle.hickory_base.specs.declared.errors.UpdateFault.{UpdateFault}
use Rattle.hickory_base.specs.declared.errors.UpdateFault.TheVariants.{Code, Memory}
use Rattle.hickory_base.specs.zone_store.Lookups.{UpdateResult}
use Rattle.hickory_store.specs.updates.UpdatableZone.{UpdatableZone}
use Rattle.hickory_store.specs.updates.UpdateAnswers.{told_context}
use Rattle.hickory_store.specs.declared.updates.verifier.Verifier.{Ghosts}
use Rattle.durable_updates.specs.DurableUpdates.{AnswersDurably, IsWriteFault, Told}
use Rattle.durable_updates.specs.ReadRequests.{IsRead}

-- the entries of requests
abbrev pub bytes_of : List ReceivedRequest → List (List ℕ)
bytes_of requests = map (λ (request : ReceivedRequest). request.bytes) requests

-- A request, at its moment, is answered as a zone without a journal answers it (RFC 2136 section 3); or, where its
-- message was not read from its bytes, it is ServFail, 2, and changes nothing. Of one that is accepted the message is
-- the one that its bytes begin with.
abbrev pub AnswersRead : {V : Type 0} → Ghosts V → UpdatableZone V → TimedRequest → Told → UpdatableZone V → Type 0
AnswersRead by old request told new = AnswersDurably (request.0.was_read ≡ false) by old request told new × OnOk told.0 (IsRead request.0)

-- Each is answered so, over the zone that those before it leave.
abbrev pub AnswersEach : {V : Type 0} → Ghosts V → List TimedRequest → List Told → UpdatableZone V → UpdatableZone V → Type 0
AnswersEach by [] [] old new = new ≡ old
AnswersEach by [] (told ∷ others) old new = ⊥
AnswersEach by (request ∷ requests) [] old new = ⊥
AnswersEach {V} by (request ∷ requests) (told ∷ others) old new =
    (between : UpdatableZone V) × AnswersRead by old request told between × AnswersEach by requests others between new

-- this request before others, where it is answered Ok
abbrev pub if_accepted : UpdateResult → ReceivedRequest → List ReceivedRequest → List ReceivedRequest
if_accepted (Ok changed) request others = request ∷ others
if_accepted (Err fault) request others = others

-- the requests that are answered Ok, in their order: these are to be written
abbrev pub accepted : List TimedRequest → List Told → List ReceivedRequest
accepted [] told = []
accepted (request ∷ requests) [] = []
accepted (request ∷ requests) (told ∷ others) = if_accepted told.0 request.0 (accepted requests others)

-- the answer in the place of this one, where nothing of the batch was written, by this fault: none is acknowledged.
-- That memory was refused stays.
abbrev pub unwritten : UpdateFault → UpdateResult → UpdateResult
unwritten fault (Ok changed) = Err fault
unwritten fault (Err (Code code)) = Err fault
unwritten fault (Err Memory) = Err Memory

-- the same, with what goes to the signer: nothing where memory was refused
abbrev pub told_unwritten : UpdateFault → Told → Told
told_unwritten fault told = (unwritten fault told.0, told_context told.1 (unwritten fault told.0))

-- Once the batch was written, the requests are told what they were judged, and the zone is the one that they leave.
-- Where it was not, none is acknowledged, and the zone is as before.
abbrev pub EndsAs : {V : Type 0} → Result (Unit {0}) UpdateFault → List Told → List Told → UpdatableZone V → UpdatableZone V → UpdatableZone V → Type 0
EndsAs (Ok done) judged told old ahead new = (told ≡ judged) × (new ≡ ahead)
EndsAs (Err fault) judged told old ahead new = (told ≡ map (told_unwritten fault) judged) × (new ≡ old)

-- What a batch is told, and the zone that it leaves: the requests are judged, and then what they ask for is written or
-- not. That it is not is for this reason, which depends on the entries, or for want of memory.
pub record AnswersBatch {V : Type 0} (Reason : List (List ℕ) → Type 0) (by : Ghosts V) (requests : List TimedRequest) (told : List Told) (old new : UpdatableZone V) : Type 0 where
  pub judged : List Told
  pub ahead : UpdatableZone V
  pub written : Result (Unit {0}) UpdateFault
  pub each : AnswersEach by requests judged old ahead
  pub ends : EndsAs written judged told old ahead new
  pub err : IfErr written (IsWriteFault (Reason (bytes_of (accepted requests judged))))
