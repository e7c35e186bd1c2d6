-- How a reply gets its transaction signature (RFC 8945 section 5.3).
use Rattle.std.specs.Prelude.{◌≡◌, ℕ, List, Option, Some, None}
use Rattle.wire_messages.specs.Numbers.{code_serv_fail}
use Rattle.wire_messages.specs.op.EdnsFields.{EdnsFields}
use Rattle.wire_messages.specs.serialize.writing.Reply.{Reply}
use Rattle.hickory_wire.specs.serialize.writing.ReplyParts.{CannotBeWritten}
use Rattle.wire_writing.specs.serialize.writing.Writing.{Fronts, Written}
use Rattle.wire_names.specs.declared.error.ProtoError.{ProtoError}
use Rattle.wire_messages.specs.declared.rr.record.Record.{Record}
use Rattle.wire_messages.specs.declared.rr.tsig.TSIG.{TSIG}
use Rattle.wire_messages.specs.declared.rr.tsig.TSigResponseContext.{TSigResponseContext}
use Rattle.hickory_base.specs.declared.requests.message_request.MessageRequest.{MessageRequest}
use Rattle.hickory_base.specs.zone_store.Lookups.{SignerContext}
use Rattle.hickory_catalog.specs.replies.Replies.{Contents, error_reply, unsigned_reply}

-- What a signer gives for bytes: its TSIG record, or `None` where it cannot sign them.
abbrev pub Signer : Type 0
Signer = TSigResponseContext → List ℕ → Option (Record TSIG)

-- What a signer gives for a reply that has no signature yet: it is asked for bytes that the reply is written as within
-- 65,535 (RFC 1035 section 4.2.2), since the digest is of the whole message without the TSIG record (RFC 8945 section
-- 4.3.2). A reply that is cut for its transport after that is not signed anew.
pub data IsSignatureOf (signer : Signer) (context : TSigResponseContext) (unsigned : Reply) : Option (Record TSIG) → Type 0 where
  -- The signer's answer for its bytes.
  answered : {bytes : List ℕ} {fronts : Fronts} {answer : Option (Record TSIG)} → Written 65535 unsigned bytes fronts
      → signer context bytes ≡ answer → IsSignatureOf signer context unsigned answer
  -- There is none of a reply that cannot be written.
  unwritable : {e : ProtoError} → CannotBeWritten 65535 unsigned e → IsSignatureOf signer context unsigned None

-- What becomes of a reply that has no signature yet, by the context with which the answer came.
pub data IsSigned (signer : Signer) (failure unsigned reply : Reply) : SignerContext → Type 0 where
  -- No signature is asked for.
  plain : reply ≡ unsigned → IsSigned signer failure unsigned reply None
  -- It has its signature.
  signed : {context : TSigResponseContext} {signature : Record TSIG} → IsSignatureOf signer context unsigned (Some signature)
      → reply ≡ record unsigned { signature = Some signature } → IsSigned signer failure unsigned reply (Some context)
  -- It has none, and another reply is sent in its place.
  failed : {context : TSigResponseContext} → IsSignatureOf signer context unsigned None → reply ≡ failure
      → IsSigned signer failure unsigned reply (Some context)

-- The reply to a request that says this, signed where the answer came with a context; where it cannot be signed,
-- ServFail. The replies to lookups, transfers and updates are all made so.
abbrev pub SignedReply : Signer → MessageRequest → Option EdnsFields → Contents → SignerContext → Reply → Type 0
SignedReply signer request edns contents context reply = IsSigned signer (error_reply request edns code_serv_fail) (unsigned_reply request edns contents) reply context
