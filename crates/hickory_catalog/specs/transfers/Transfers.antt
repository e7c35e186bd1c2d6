-- Transfers of whole zones (RFC 5936).
use Rattle.std.specs.Prelude.{◌≡◌, ◌⊎◌, ◌+◌, ◌<◌, ◌≤◌, ◌&&◌, ℕ, Bool, true, false, not, List, [], ◌∷◌, length, map, take, drop, Option, Some, None, is_none, Result, Ok, Err, is_ok}
use Rattle.std.specs.List.{sum_by}
use Rattle.std.specs.Option.{option_map, option_to_list}
use Rattle.wire_messages.specs.Numbers.{code_no_error}
use Rattle.wire_messages.specs.op.EdnsFields.{EdnsFields}
use Rattle.wire_messages.specs.serialize.writing.RecordSize.{full_size}
use Rattle.wire_messages.specs.serialize.writing.Reply.{Reply, opt_record}
use Rattle.wire_messages.specs.declared.protocol.Protocol.{Protocol}
use Rattle.wire_messages.specs.declared.protocol.Protocol.TheVariants as protocol
use Rattle.wire_messages.specs.declared.rr.rdata.RData.{RData}
use Rattle.wire_messages.specs.declared.rr.record.Record.{Record}
use Rattle.hickory_base.specs.declared.requests.message_request.MessageRequest.{MessageRequest}
use Rattle.wire_messages.specs.declared.op.header.Metadata.{Metadata}
use Rattle.hickory_base.specs.requests.Requests.{ReceivedRequest}
use Rattle.hickory_base.specs.declared.errors.LookupError.{LookupError}
use Rattle.hickory_base.specs.declared.zone_store.handler.ZoneHandler.{Ghosts}
use Rattle.hickory_base.specs.declared.zone_store.lookup.ZoneTransfer.{ZoneTransfer}
use Rattle.hickory_base.specs.zone_store.Lookups.{SignerContext}
use Rattle.hickory_catalog.specs.queries.Authoritative.{authoritative_metadata, negative_code, refusal_code}
use Rattle.hickory_catalog.specs.replies.Replies.{Contents, bare_contents, error_contents, plain_reply}
use Rattle.hickory_catalog.specs.replies.ReplyEdns.{with_high_code}
use Rattle.hickory_catalog.specs.queries.Transcripts.{options_of}

-- what a handler gives for a transfer, with what a signer of the reply has to know, or `None` where another one is to
-- be asked
abbrev pub TransferGiven : Type 0
TransferGiven = Option (Result ZoneTransfer LookupError × SignerContext)

-- The handlers of a chain are asked for the transfer from left to right, at this moment, with the options of the
-- request. After `None` the next one is asked. Any answer ends the asking, and with it comes what a signer has to know.
pub data TransferAsked {H : Type 0} (handler : Ghosts H) (request : ReceivedRequest) (now : ℕ) : List H → TransferGiven → Type 0 where
  nobody : TransferAsked handler request now [] None
  passed : {h : H} {hs : List H} {answer : TransferGiven}
      → handler.transfer_gives h request (options_of request) now None
      → TransferAsked handler request now hs answer
      → TransferAsked handler request now (h ∷ hs) answer
  answered : {h : H} {hs : List H} {result : Result ZoneTransfer LookupError} {context : SignerContext}
      → handler.transfer_gives h request (options_of request) now (Some (result, context))
      → TransferAsked handler request now (h ∷ hs) (Some (result, context))

-- the code of a transfer that is not given: the code with which the handler refuses, else that of a negative reply
abbrev pub transfer_fault : LookupError → ℕ
transfer_fault e = code_or (refusal_code e) where
  code_or : Option ℕ → ℕ
  code_or None = negative_code e
  code_or (Some code) = code

-- What a reply says that is the whole transfer: the records of the zone as answers, with AA (RFC 5936 section 2.2.1);
-- or a code, without AA and without records.
abbrev pub transfer_contents : Metadata → Result ZoneTransfer LookupError → Contents
transfer_contents request (Ok transfer) = record (bare_contents (authoritative_metadata request code_no_error)) { answers = transfer.records }
transfer_contents request (Err e) = error_contents request (transfer_fault e)

-- whether the transport is UDP
abbrev pub is_udp : Protocol → Bool
is_udp protocol.Udp = true
is_udp other = false

-- A transfer that is given is sent in as many messages as it takes (RFC 5936 section 2.2): over any transport but UDP,
-- and where nothing is to be signed.
abbrev pub is_split : Protocol → Result ZoneTransfer LookupError → SignerContext → Bool
is_split transport result context = not (is_udp transport) && is_ok result && is_none context

-- how many bytes stand in each message of a transfer beside its answers: header, questions, and the OPT record where
-- there is one
abbrev pub size_without_answers : MessageRequest → Option EdnsFields → ℕ
size_without_answers request edns = 12 + length request.queries.bytes + sum_by full_size (option_to_list (option_map opt_record edns))

-- how many bytes a message of these answers takes with every name in full
abbrev pub message_size : ℕ → List (Record RData) → ℕ
message_size front answers = front + sum_by full_size answers

-- Records in runs, of which each has its own message: it takes the next records as long as they fit 65,535 bytes, which
-- is what a length of 16 bits allows (RFC 1035 section 4.2.2), and one at least. Where there are no records there is
-- one run, which is empty.
pub data AreRuns (front : ℕ) : List (Record RData) → List (List (Record RData)) → Type 0 where
  -- All that is left fits, or is one record at most.
  last : {records : List (Record RData)} → (message_size front records ≤ 65535) ⊎ (length records ≤ 1) → AreRuns front records (records ∷ [])
  -- The first so many fit, or are one record, and with the next one they would not fit.
  full : {records : List (Record RData)} {runs : List (List (Record RData))} (len : ℕ) → 1 ≤ len → len < length records
      → (message_size front (take len records) ≤ 65535) ⊎ (len ≤ 1) → 65535 < message_size front (take (len + 1) records)
      → AreRuns front (drop len records) runs → AreRuns front records (take len records ∷ runs)

-- one message of a transfer, with these records of it and this EDNS (RFC 5936 section 2.2)
abbrev pub message_of_transfer : MessageRequest → Option EdnsFields → List (Record RData) → Reply
message_of_transfer request edns records = plain_reply request edns (record (bare_contents (authoritative_metadata request.metadata code_no_error)) { answers = records })

-- The replies of a transfer that is sent in as many as it takes: they say the same but for their answers, and these are
-- its records in runs.
pub record AreTransferReplies (request : MessageRequest) (edns : Option EdnsFields) (records : List (Record RData)) (replies : List Reply) : Type 0 where
  pub runs : List (List (Record RData))
  pub are_runs : AreRuns (size_without_answers request edns) records runs
  pub replies_are : replies ≡ map (message_of_transfer request (with_high_code code_no_error edns)) runs
