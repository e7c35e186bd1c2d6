-- Which reply a request gets.
use Rattle.std.specs.Prelude.{◌≡◌, ◌==◌, ◌||◌, ℕ, Bool, true, false, cond, List, [], ◌∷◌, Option, Some, None, is_some}
use Rattle.wire_messages.specs.Numbers.{code_bad_vers, code_form_err, code_not_imp, opcode_query, opcode_update}
use Rattle.wire_messages.specs.op.EdnsFields.{EdnsFields}
use Rattle.wire_messages.specs.serialize.writing.Reply.{Reply}
use Rattle.wire_messages.specs.declared.op.header.MessageType.{MessageType}
use Rattle.wire_messages.specs.declared.op.header.MessageType.TheVariants as message_type
use Rattle.hickory_base.specs.requests.Questions.{edns_version}
use Rattle.hickory_base.specs.requests.Requests.{ReceivedRequest}
use Rattle.hickory_base.specs.declared.errors.CatalogError.{CatalogError}
use Rattle.hickory_base.specs.declared.errors.CatalogError.TheVariants.{Memory, MemoryAfterUpdate}
use Rattle.hickory_base.specs.declared.requests.message_request.MessageRequest.{MessageRequest}
use Rattle.hickory_catalog.specs.queries.Queries.{QueryAnswered}
use Rattle.hickory_catalog.specs.replies.Replies.{error_reply}
use Rattle.hickory_catalog.specs.replies.ReplyEdns.{reply_edns}
use Rattle.hickory_catalog.specs.requests.Server.{Server}
use Rattle.hickory_catalog.specs.updates.Updates.{UpdateAnswered, UpdateLeaves}
use Rattle.hickory_catalog.specs.zones.Zones.{ZoneChains}

-- QR is clear (RFC 1035 section 4.1.1)
abbrev pub is_request : MessageType → Bool
is_request message_type.Query = true
is_request message_type.Response = false

-- A message with QR set is answered FormErr, as in the Rust crate; opcodes Query and Update (RFC 2136 section 1.3) are
-- served; any other is NotImp (codes: RFC 1035 section 4.1.1).
abbrev pub header_fault : MessageRequest → Option ℕ
header_fault request = cond (is_request request.metadata.message_type)
    (cond (request.metadata.op_code == opcode_query || request.metadata.op_code == opcode_update) None (Some code_not_imp)) (Some code_form_err)

-- Why a request is not looked into: the response code that says so, of what is wrong first. Only version 0 of EDNS is
-- known: BADVERS (RFC 6891 section 6.1.3).
abbrev pub request_fault : MessageRequest → Option ℕ
request_fault request = cond (edns_version request.edns == 0) (header_fault request) (Some code_bad_vers)

-- What a request comes to, at this moment: the replies that are sent, and the zones after it.
pub data RequestAnswered {H : Type 0} (server : Server H) (request : ReceivedRequest) (now : ℕ) (replies : List Reply) (zones : ZoneChains H) : Type 0 where
  -- It is not looked into.
  refused : {code : ℕ} → request_fault request.message ≡ Some code
      → replies ≡ error_reply request.message (reply_edns server.identifier request.message.edns) code ∷ []
      → zones ≡ server.zones
      → RequestAnswered server request now replies zones
  -- It is a query.
  asks : request_fault request.message ≡ None → (request.message.metadata.op_code == opcode_update) ≡ false
      → QueryAnswered server request (reply_edns server.identifier request.message.edns) now replies zones
      → RequestAnswered server request now replies zones
  -- It is a dynamic update.
  updates : request_fault request.message ≡ None → (request.message.metadata.op_code == opcode_update) ≡ true
      → UpdateAnswered server request (reply_edns server.identifier request.message.edns) now replies zones
      → RequestAnswered server request now replies zones

-- The zones after a request where memory was refused and no reply was sent: they are as before, but where an update had
-- been made.
abbrev pub RequestLeaves : {H : Type 0} → Server H → ReceivedRequest → ℕ → CatalogError → ZoneChains H → Type 0
RequestLeaves server request now Memory zones = zones ≡ server.zones
RequestLeaves server request now MemoryAfterUpdate zones = (request_fault request.message ≡ None) × ((request.message.metadata.op_code == opcode_update) ≡ true)
    × UpdateLeaves server request now MemoryAfterUpdate zones

-- A reply has the identifier of its request (RFC 1035 section 4.1.1), and an OPT record just where there is EDNS for it
-- (RFC 6891 sections 6.1.1 and 7). TC is set only where it is cut when it is written.
pub record BelongsTo (request : ReceivedRequest) (edns : Option EdnsFields) (reply : Reply) : Type 0 where
  pub id : reply.metadata.id ≡ request.message.metadata.id
  pub edns_kept : is_some reply.edns ≡ is_some edns
  pub untruncated : reply.metadata.truncation ≡ false
