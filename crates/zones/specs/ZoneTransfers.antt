-- What a zone that takes updates gives for a transfer: the whole zone (RFC 5936), or what changed since the version of
-- the client (RFC 1995).
use Rattle.std.specs.Prelude.{◌≡◌, ◌⊎◌, ◌==◌, ◌∷◌, ℕ, cond, List, [], Option, Some, None, Result, Ok, Err}
use Rattle.std.specs.Bool.{MatchBool}
use Rattle.wire_messages.specs.Numbers.{code_not_auth, type_ixfr}
use Rattle.wire_messages.specs.declared.op.query.Query.{Query}
use Rattle.hickory_base.specs.requests.Questions.{one_query}
use Rattle.hickory_base.specs.requests.Requests.{ReceivedRequest}
use Rattle.hickory_base.specs.zone_store.Lookups.{SignerContext}
use Rattle.hickory_base.specs.zone_store.ZoneAnswers.{MemoryZone, soa_alone}
use Rattle.hickory_base.specs.declared.errors.LookupError.{LookupError}
use Rattle.hickory_base.specs.declared.errors.LookupError.TheVariants.{Memory, ResponseCode}
use Rattle.hickory_base.specs.declared.zone_store.lookup.ZoneTransfer.{ZoneTransfer}
use Rattle.hickory_store.specs.updates.Permission.{Permission, transfer_permission}
use Rattle.hickory_store.specs.updates.TransferAnswers.{SoaTransferredAs, TransferredAs, transfer_or_code}
use Rattle.hickory_store.specs.updates.UpdatableZone.{UpdatableZone}
use Rattle.hickory_store.specs.declared.updates.verifier.Verifier.{Ghosts}
use Rattle.zone_replies.specs.Handled.{held_serial, is_by_soa, names_zone}
use Rattle.zone_replies.specs.Replies.{as_zone}
use Rattle.zone_differences.specs.Histories.{since}
use Rattle.zone_differences.specs.Sequences.{with_differences}
use Rattle.zone_differences.specs.declared.difference.Difference.{Difference}

-- what is answered to a request for a transfer, and what the signer of the reply has to know
abbrev pub TransferAnswer : Type 0
TransferAnswer = Option (Result ZoneTransfer LookupError × SignerContext)

-- the differences since the version with this serial, if the client named one
abbrev pub since_held : Option ℕ → List Difference → List Difference
since_held (Some serial) history = since serial history
since_held None history = []

-- the differences that a question asks for: those since the version that the client of an IXFR has (RFC 1995 section 3)
abbrev pub since_version : List Difference → ReceivedRequest → Query → List Difference
since_version history request query = cond (query.query_type == type_ixfr) (since_held (held_serial request.message.authorities) history) []

-- By the permission to a transfer the differences are given (RFC 1995 section 4); or memory was refused, and then there
-- is nothing for the signer.
abbrev pub IsIncremental : MemoryZone → List Difference → Permission → TransferAnswer → Type 0
IsIncremental zone differences permission answer =
    (answer ≡ Some (with_differences differences (soa_alone (transfer_or_code zone permission.refusal)), permission.context)) ⊎ (answer ≡ Some (Err Memory, None))

-- The differences are given. If there are none, the whole zone is given (RFC 1995 section 4).
abbrev pub GivenSince : List Difference → MemoryZone → Permission → TransferAnswer → Type 0
GivenSince [] zone permission answer = TransferredAs zone permission answer
GivenSince (difference ∷ differences) zone permission answer = IsIncremental zone (difference ∷ differences) permission answer

-- The answer to a question about the zone: the SOA alone, if that is enough (RFC 1995 section 2); else the differences
-- or the zone.
abbrev pub GivenFor : MemoryZone → List Difference → Permission → ReceivedRequest → Query → TransferAnswer → Type 0
GivenFor zone history permission request query answer =
    MatchBool (is_by_soa zone request query) (SoaTransferredAs zone permission answer) (GivenSince (since_version history request query) zone permission answer)

-- The one question of the request is answered, if it names the zone. Of any other name the server holds no zone:
-- NOTAUTH (RFC 5936 section 2.2.1).
abbrev pub TransferredFor : MemoryZone → List Difference → Permission → ReceivedRequest → Result Query LookupError → TransferAnswer → Type 0
TransferredFor zone history permission request (Ok query) answer =
    MatchBool (names_zone (as_zone zone) query) (GivenFor zone history permission request query answer) (answer ≡ Some (Err (ResponseCode code_not_auth), None))
TransferredFor zone history permission request (Err e) answer = answer ≡ Some (Err e, None)

-- A transfer of the zone, of which this history is known, at a moment in seconds since 1970.
abbrev pub TransferGiven : {V : Type 0} → Ghosts V → UpdatableZone V → List Difference → ReceivedRequest → ℕ → TransferAnswer → Type 0
TransferGiven by zone history request now answer =
    TransferredFor zone.zone history (transfer_permission by zone.verifier zone.axfr_policy request now) request (one_query request.message.queries.queries) answer
