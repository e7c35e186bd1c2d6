-- What a durable update answers. Updates follow the RFCs also where the Rust crate hickory-server differs from them.
use Rattle.std.specs.Prelude.{◌≡◌, ◌⊎◌, Bool, false, true, Err, None}
use Rattle.hickory_base.specs.requests.Updates.{UpdateMessage, update_of}
use Rattle.hickory_base.specs.zone_store.ZoneAnswers.{MemoryZone}
use Rattle.hickory_base.specs.zone_store.ZoneSets.{zone_records}
use Rattle.hickory_base.specs.declared.errors.UpdateFault.{UpdateFault}
use Rattle.hickory_base.specs.declared.errors.UpdateFault.TheVariants.{Code, Memory}
use Rattle.hickory_base.specs.requests.Requests.{TimedRequest}
use Rattle.hickory_base.specs.zone_store.Lookups.{SignerContext, UpdateResult}
use Rattle.hickory_store.specs.updates.Permission.{update_permission}
use Rattle.hickory_store.specs.updates.Prerequisites.{prerequisite_section_refusal}
use Rattle.hickory_store.specs.updates.Prescan.{prescan_refusal}
use Rattle.hickory_store.specs.updates.UpdatableZone.{UpdatableZone}
use Rattle.hickory_store.specs.updates.UpdateAnswers.{AnswersUpdate, Outcome, Updates, applied, message_outcome}
use Rattle.hickory_store.specs.declared.updates.verifier.Verifier.{Ghosts}
use Rattle.durable_updates.specs.Journalling.{RefusesEntry}

-- what a request is answered, and what goes with that for the signer of the reply
abbrev pub Told : Type 0
Told = UpdateResult × SignerContext

-- The prerequisites of an update hold, and its records pass the prescan (RFC 2136 sections 3.2 and 3.4.1).
pub record PassesChecks (zone : MemoryZone) (message : UpdateMessage) : Type 0 where
  pub required : prerequisite_section_refusal zone.origin (zone_records zone.sets) message.prerequisites ≡ None
  pub scanned : prescan_refusal zone.origin message.updates ≡ None

-- An update comes to be written: its sender may make it (section 3.3), and it passes these checks.
pub record IsAccepted {V : Type 0} (by : Ghosts V) (old : UpdatableZone V) (request : TimedRequest) : Type 0 where
  pub permitted : (update_permission by old.verifier old.allow_update request.0 request.1).refusal ≡ None
  pub passes : PassesChecks old.zone (update_of request.0.message)

-- Only such an update may stay unwritten, or one whose message was not read from its bytes.
abbrev pub MayStayUnwritten : {V : Type 0} → Ghosts V → UpdatableZone V → TimedRequest → Type 0
MayStayUnwritten by old request = (request.0.was_read ≡ false) ⊎ IsAccepted by old request

-- Such an update stays unwritten only if the journal refuses it: after the call the journal takes no entries, or the
-- entry is too long.
abbrev pub StaysUnwritten : {V : Type 0} → Ghosts V → UpdatableZone V → TimedRequest → Bool → Type 0
StaysUnwritten by old request takes = (request.0.was_read ≡ false) ⊎ (IsAccepted by old request × RefusesEntry takes request.0.bytes)

-- Why a request is not written: ServFail, which is 2, for this reason; or want of memory.
abbrev pub IsWriteFault : Type 0 → UpdateFault → Type 0
IsWriteFault Reason fault = (fault ≡ Memory) ⊎ ((fault ≡ Code 2) × Reason)

-- It could not be written to the journal, for this reason: ServFail, which is 2, and the zone is as before.
abbrev pub IsUnwritten : {V : Type 0} → Type 0 → UpdateResult → UpdatableZone V → UpdatableZone V → Type 0
IsUnwritten Reason answer old new = (answer ≡ Err (Code 2)) × (new ≡ old) × Reason

-- The zone is left as an update of this outcome may leave it, or the update could not be written.
abbrev pub UpdatesDurably : {V : Type 0} → Type 0 → Outcome → UpdateResult → UpdatableZone V → UpdatableZone V → Type 0
UpdatesDurably Reason outcome answer old new = (Updates outcome answer old.zone new.zone × (new ≡ record old { zone = new.zone })) ⊎ IsUnwritten Reason answer old new

-- The update section of a message is done, or it could not be written.
abbrev pub DoesDurably : {V : Type 0} → Type 0 → UpdateMessage → UpdateResult → UpdatableZone V → UpdatableZone V → Type 0
DoesDurably Reason message answer old new = UpdatesDurably Reason (applied true old.zone.origin (zone_records old.zone.sets) message.updates true) answer old new

-- The update of a message that may be made is made, or it could not be written.
abbrev pub MakesDurably : {V : Type 0} → Type 0 → UpdateMessage → UpdateResult → UpdatableZone V → UpdatableZone V → Type 0
MakesDurably Reason message answer old new = UpdatesDurably Reason (message_outcome true None old.zone message) answer old new

-- A request, at its moment, is answered as a zone without a journal answers it; or it could not be written, for this
-- reason.
abbrev pub AnswersDurably : {V : Type 0} → Type 0 → Ghosts V → UpdatableZone V → TimedRequest → Told → UpdatableZone V → Type 0
AnswersDurably Reason by old request told new = AnswersUpdate true by old request told.0 told.1 new ⊎ IsUnwritten Reason told.0 old new
