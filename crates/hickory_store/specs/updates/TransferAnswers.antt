-- What a zone that takes updates answers, where the zone in memory does not answer for it.
use Rattle.std.specs.Prelude.{◌≡◌, ◌==◌, ◌⊎◌, ℕ, Bool, true, false, Option, Some, None, Result, Ok, Err}
use Rattle.wire_messages.specs.Numbers.{type_axfr}
use Rattle.wire_messages.specs.declared.op.query.Query.{Query}
use Rattle.hickory_base.specs.zone_store.Lookups.{Flow, SignerContext}
use Rattle.hickory_base.specs.requests.Questions.{one_query}
use Rattle.hickory_base.specs.requests.Requests.{ReceivedRequest}
use Rattle.hickory_base.specs.zone_store.ZoneAnswers.{MemoryZone, Searched, soa_alone, whole_zone, zone_soa}
use Rattle.hickory_base.specs.declared.errors.DnsError.TheVariants.{Other}
use Rattle.hickory_base.specs.declared.errors.LookupError.{LookupError}
use Rattle.hickory_base.specs.declared.errors.LookupError.TheVariants.{Net, ResponseCode, Memory}
use Rattle.hickory_base.specs.declared.errors.UpdateFault.{UpdateFault}
use Rattle.hickory_base.specs.declared.errors.UpdateFault.TheVariants as update_fault
use Rattle.hickory_base.specs.declared.zone_store.lookup.LookupControlFlow.TheVariants.{Break}
use Rattle.hickory_base.specs.declared.zone_store.lookup.ZoneTransfer.{ZoneTransfer}
use Rattle.hickory_store.specs.updates.Permission.{Permission}

-- a refused permission, as the answer to a transfer
abbrev pub transfer_failure : UpdateFault → LookupError
transfer_failure (update_fault.Code code) = ResponseCode code
transfer_failure update_fault.Memory = Memory

-- the whole zone, which is ServFail without an SOA, or the code of the refusal
abbrev pub transfer_or_code : MemoryZone → Option ℕ → Result ZoneTransfer LookupError
transfer_or_code zone None = whole_zone zone (zone_soa zone)
transfer_or_code zone (Some code) = Err (ResponseCode code)

-- A transfer is what is permitted of the zone, with what the signer of the reply has to know; or memory was refused,
-- and then there is nothing for the signer.
abbrev pub TransferredAs : MemoryZone → Permission → Option (Result ZoneTransfer LookupError × SignerContext) → Type 0
TransferredAs zone permission answer =
    (answer ≡ Some (transfer_or_code zone permission.refusal, permission.context)) ⊎ (answer ≡ Some (Err Memory, None))

-- The SOA alone in the place of a transfer, by the same permission.
abbrev pub SoaTransferredAs : MemoryZone → Permission → Option (Result ZoneTransfer LookupError × SignerContext) → Type 0
SoaTransferredAs zone permission answer =
    (answer ≡ Some (soa_alone (transfer_or_code zone permission.refusal), permission.context)) ⊎ (answer ≡ Some (Err Memory, None))

-- Type AXFR asks for a transfer, which no search answers (RFC 5936 section 2.1).
abbrev pub asks_for_transfer : Result Query LookupError → Bool
asks_for_transfer (Ok query) = query.query_type == type_axfr
asks_for_transfer (Err e) = false

abbrev pub SearchedUnless : Bool → MemoryZone → ReceivedRequest → Flow → Type 0
SearchedUnless true zone request answer = answer ≡ Break (Err (Net Other))
SearchedUnless false zone request answer = Searched zone request answer

-- a request: the zone in memory answers it, unless it asks for a transfer
abbrev pub SearchedIn : MemoryZone → ReceivedRequest → Flow → Type 0
SearchedIn zone request answer = SearchedUnless (asks_for_transfer (one_query request.message.queries.queries)) zone request answer
