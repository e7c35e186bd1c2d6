-- What an update of a zone answers and leaves (RFC 2136 sections 3.2 to 3.6), whole or not at all (section 3.7).
use Rattle.std.specs.Prelude.{◌≡◌, ◌≢◌, ℕ, ◌&&◌, Bool, true, false, cond, List, [], ◌∷◌, map, IfOk, Option, Some, None, Result, Ok, Err}
use Rattle.std.specs.List.{list_any}
use Rattle.wire_names.specs.rr.domain.DomainName.{DomainName}
use Rattle.wire_messages.specs.Numbers.{code_serv_fail, type_soa}
use Rattle.wire_messages.specs.declared.rr.rdata.RData.{RData}
use Rattle.wire_messages.specs.declared.rr.rdata.RData.TheVariants as rdata
use Rattle.wire_messages.specs.declared.rr.record.Record.{Record}
use Rattle.hickory_base.specs.requests.Requests.{TimedRequest}
use Rattle.hickory_base.specs.requests.Updates.{UpdateMessage, update_of}
use Rattle.hickory_base.specs.zone_store.ZoneAnswers.{MemoryZone}
use Rattle.hickory_base.specs.zone_store.ZoneRecords.{is_at}
use Rattle.hickory_base.specs.zone_store.ZoneSets.{zone_records}
use Rattle.hickory_base.specs.declared.errors.UpdateFault.{UpdateFault}
use Rattle.hickory_base.specs.declared.errors.UpdateFault.TheVariants.{Code, Memory}
use Rattle.hickory_base.specs.zone_store.Lookups.{SignerContext, UpdateResult}
use Rattle.hickory_store.specs.updates.Changes.{any_change, after_updates, is_type}
use Rattle.hickory_store.specs.updates.Identity.{SameRrsets, SameZone}
use Rattle.hickory_store.specs.updates.Permission.{Permission, update_permission}
use Rattle.hickory_store.specs.updates.Prerequisites.{prerequisite_section_refusal}
use Rattle.hickory_store.specs.updates.Prescan.{prescan_refusal}
use Rattle.hickory_store.specs.updates.Serials.{next_serial}
use Rattle.hickory_store.specs.updates.UpdatableZone.{UpdatableZone}
use Rattle.hickory_store.specs.declared.updates.verifier.Verifier.{Ghosts}

-- the record is an SOA of the apex
abbrev pub is_apex_soa : DomainName → Record RData → Bool
is_apex_soa origin q = is_at origin q && is_type type_soa q

abbrev pub next_data : RData → RData
next_data (rdata.SOA soa) = rdata.SOA (record soa { serial = next_serial soa.serial })
next_data other = other

-- the record once the serial of the zone is incremented (section 3.6)
abbrev pub incremented : DomainName → Record RData → Record RData
incremented origin q = cond (is_apex_soa origin q) (record q { rdata = next_data q.rdata }) q

-- The records of a zone after an update and whether the zone changed, or the code of the refusal.
abbrev pub Outcome : Type 0
Outcome = Result (List (Record RData) × Bool) ℕ

-- the serial is incremented where there is an SOA; without one a change is ServFail
abbrev pub with_next_serial : DomainName → List (Record RData) → Outcome
with_next_serial origin records = cond (list_any (is_apex_soa origin) records) (Ok (map (incremented origin) records, true)) (Err code_serv_fail)

-- The update section is done to the zone. An update that increments the serial does so once, wherever a record changed
-- the zone, also where one was a newer SOA (section 3.6 asks for it only where none was); where none changed it, the
-- zone stays as it is. An update that does not increment, as one that is replayed, leaves what its records leave, and
-- answers false. `by_rfc` is that of `Changes`.
abbrev pub applied : Bool → DomainName → List (Record RData) → List (Record RData) → Bool → Outcome
applied by_rfc origin zone updates true =
    cond (any_change by_rfc origin zone updates) (with_next_serial origin (after_updates by_rfc origin zone updates)) (Ok (zone, false))
applied by_rfc origin zone updates false = Ok (after_updates by_rfc origin zone updates, false)

-- These records are the zone of the outcome, and this is its answer.
abbrev pub IsOutcome : Outcome → List (Record RData) → Bool → Type 0
IsOutcome (Ok outcome) records changed = SameZone records outcome.0 × (changed ≡ outcome.1) × SameRrsets records outcome.0
IsOutcome (Err code) records changed = ⊥

-- A code is that of the outcome; or memory was refused.
abbrev pub IsRefused : Outcome → UpdateFault → Type 0
IsRefused outcome (Code code) = outcome ≡ Err code
IsRefused outcome Memory = Unit {0}

-- The zone is left as an update may leave it.
abbrev pub Updates : Outcome → UpdateResult → MemoryZone → MemoryZone → Type 0
Updates outcome (Ok changed) old new = IsOutcome outcome (zone_records new.sets) changed × (new ≡ record old { sets = new.sets })
Updates outcome (Err fault) old new = IsRefused outcome fault × (new ≡ old)

-- the outcome, unless the update is refused before
abbrev pub unless_refused : Option ℕ → Outcome → Outcome
unless_refused None outcome = outcome
unless_refused (Some code) outcome = Err code

-- the outcome of a request: who may update, the prerequisites, the prescan, and the update section, in this order
-- (section 3)
abbrev pub message_outcome : Bool → Option ℕ → MemoryZone → UpdateMessage → Outcome
message_outcome by_rfc refusal zone message =
    unless_refused refusal
    (unless_refused (prerequisite_section_refusal zone.origin (zone_records zone.sets) message.prerequisites)
    (unless_refused (prescan_refusal zone.origin message.updates)
    (applied by_rfc zone.origin (zone_records zone.sets) message.updates true)))

-- what goes with the answer for the signer of the reply; nothing where memory was refused
abbrev pub told_context : SignerContext → UpdateResult → SignerContext
told_context context (Err Memory) = None
told_context context answer = context

-- The answer to a request, what goes with it, and the handler after it. Where the answer is false, nothing is touched.
abbrev pub AnswersBy : {V : Type 0} → Bool → Permission → UpdatableZone V → UpdateMessage → UpdateResult → SignerContext → UpdatableZone V → Type 0
AnswersBy by_rfc permission old message answer context new =
    Updates (message_outcome by_rfc permission.refusal old.zone message) answer old.zone new.zone
    × (context ≡ told_context permission.context answer)
    × (new ≡ record old { zone = new.zone })
    × IfOk answer (λ changed. changed ≡ false → new ≡ old)

-- The answer to a request at its moment, by whether the zone takes updates and by the signature of the request.
abbrev pub AnswersUpdate : {V : Type 0} → Bool → Ghosts V → UpdatableZone V → TimedRequest → UpdateResult → SignerContext → UpdatableZone V → Type 0
AnswersUpdate by_rfc by old request answer context new =
    AnswersBy by_rfc (update_permission by old.verifier old.allow_update request.0 request.1) old (update_of request.0.message) answer context new

-- A request, at its moment, is answered, and not by want of memory.
abbrev pub UpdatesOne : {V : Type 0} → Bool → Ghosts V → TimedRequest → UpdatableZone V → UpdatableZone V → Type 0
UpdatesOne by_rfc by request old new =
    (answer : UpdateResult) × (context : SignerContext) × (answer ≢ Err Memory) × AnswersUpdate by_rfc by old request answer context new

-- So are several, one after another.
abbrev pub UpdatesAll : {V : Type 0} → Bool → Ghosts V → List TimedRequest → UpdatableZone V → UpdatableZone V → Type 0
UpdatesAll by_rfc by [] old new = new ≡ old
UpdatesAll {V} by_rfc by (request ∷ requests) old new =
    (between : UpdatableZone V) × UpdatesOne by_rfc by request old between × UpdatesAll by_rfc by requests between new
