-- What is replied to a message whose header can be read and whose body cannot.
use Rattle.std.specs.Prelude.{◌≡◌, ◌∷◌, [], ℕ, List, None}
use Rattle.wire_messages.specs.Numbers.{code_form_err}
use Rattle.wire_messages.specs.serialize.layout.HeaderLayout.{HeaderAt}
use Rattle.wire_messages.specs.declared.op.header.Header.{Header}
use Rattle.wire_messages.specs.declared.op.header.Metadata.{Metadata}
use Rattle.hickory_wire.specs.serialize.writing.ReplyParts.{ReplyEncoded}
use Rattle.hickory_base.specs.responses.Responses.{error_metadata}
use Rattle.hickory_server.specs.server.Written.{bare_message}
use Rattle.hickory_server.specs.declared.server.answer.Answer.{Answer}
use Rattle.hickory_server.specs.declared.server.answer.Answer.TheVariants.{Replies}

-- The bytes are a message of this header, without questions and records. Any client takes 512 bytes (RFC 1035 section
-- 4.2.1).
abbrev pub IsHeaderAlone : Metadata → List ℕ → Type 0
IsHeaderAlone metadata reply = (header : Header) × ReplyEncoded 512 (bare_message metadata [] 0 None) reply header

-- FORMERR: the server could not interpret the message (RFC 1035 section 4.1.1; for an update RFC 2136 section 2.2, for
-- two OPT records RFC 6891 section 6.1.1, for a TSIG record that is not the last record RFC 8945 section 5.2). The
-- reply has the identifier and the opcode of the header that the bytes begin with.
abbrev pub IsFormError : List ℕ → Answer → Type 0
IsFormError bytes answer = (header : Header) × HeaderAt bytes header × (reply : List ℕ)
    × IsHeaderAlone (error_metadata header.metadata code_form_err) reply × (answer ≡ Replies (reply ∷ []))
