-- What follows for the replies of a transfer that is sent in as many as it takes (RFC 5936 section 2.2).
use Rattle.std.specs.Prelude.{◌≡◌, ◌⊎◌, ℕ, ◌<◌, ◌≤◌, List, [], ◌∷◌, Option, IfSome}
use Rattle.std.specs.List.{AllByRecursion, flat_map}
use Rattle.wire_messages.specs.op.EdnsFields.{EdnsFields}
use Rattle.wire_messages.specs.serialize.writing.Reply.{Reply, opt_record}
use Rattle.wire_writing.specs.serialize.writing.WholeReply.{FitsWhole, HasForm}
use Rattle.wire_messages.specs.declared.rr.rdata.RData.{RData}
use Rattle.wire_messages.specs.declared.rr.record.Record.{Record}
use Rattle.hickory_base.specs.declared.requests.message_request.MessageRequest.{MessageRequest}
use Rattle.hickory_catalog.specs.transfers.Transfers.{AreRuns, AreTransferReplies, message_size, size_without_answers}

-- The answers of the replies, one after the other, are the records of the transfer.
abbrev pub AnswersAreTheTransfer : Type 0
AnswersAreTheTransfer = (request : MessageRequest) (edns : Option EdnsFields) (records : List (Record RData)) (replies : List Reply)
    → AreTransferReplies request edns records replies → flat_map (λ reply. reply.answers) replies ≡ records

-- There is one way to take records in runs.
abbrev pub OneWayToRun : Type 0
OneWayToRun = (front : ℕ) (records : List (Record RData)) (one other : List (List (Record RData))) → AreRuns front records one → AreRuns front records other → one ≡ other

-- The reply has one answer, with which it does not fit 65,535 bytes.
abbrev pub IsOneTooLarge : ℕ → Reply → Type 0
IsOneTooLarge size_before reply = (answer : Record RData) × (reply.answers ≡ answer ∷ []) × (65535 < message_size size_before (answer ∷ []))

-- Each reply fits 65,535 bytes whole, and is not cut when it is written over such a transport, or it has one record
-- that is too large by itself: where the records have a form in bytes, the options of the OPT record too, and header,
-- questions and OPT record have room.
abbrev pub NoAnswerIsCut : Type 0
NoAnswerIsCut = (request : MessageRequest) (edns : Option EdnsFields) (records : List (Record RData)) (replies : List Reply)
    → AreTransferReplies request edns records replies → AllByRecursion HasForm records → IfSome edns (λ e. HasForm (opt_record e)) → size_without_answers request edns ≤ 65535
    → AllByRecursion (λ reply. FitsWhole 65535 reply ⊎ IsOneTooLarge (size_without_answers request edns) reply) replies
