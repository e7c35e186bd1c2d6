-- The reply that is written of its parts.
use Rattle.std.specs.Prelude.{[], ℕ, List, None, Option, length, true}
use Rattle.std.specs.Option.{option_copied}
use Rattle.wire_messages.specs.op.EdnsFields.{EdnsFields}
use Rattle.wire_messages.specs.serialize.writing.Reply.{Reply}
use Rattle.wire_messages.specs.declared.op.header.Header.{Header}
use Rattle.wire_messages.specs.declared.op.header.Metadata.{Metadata}
use Rattle.hickory_wire.specs.serialize.writing.ReplyParts.{ReplyEncoded}
use Rattle.hickory_base.specs.declared.requests.message_request.MessageRequest.{MessageRequest}
use Rattle.hickory_catalog.specs.replies.ReplyEdns.{reply_edns}
use Rattle.hickory_server.specs.declared.server.writing.Contents.{Contents}

-- a message without records, except for its OPT record
abbrev pub bare_message : Metadata → List ℕ → ℕ → Option EdnsFields → Reply
bare_message metadata question count edns = record {
  metadata = metadata;
  question = question;
  question_count = count;
  edns = edns;
  answers = [];
  authorities = [];
  soa = [];
  additionals = [];
  signature = None;
}

-- the reply that says this
abbrev pub said : Contents → Reply
said contents = record {
  metadata = contents.metadata;
  question = contents.question.now;
  question_count = contents.question_count;
  edns = option_copied contents.edns;
  answers = contents.answers.now;
  authorities = contents.authorities.now;
  soa = contents.soa.now;
  additionals = contents.additionals.now;
  signature = option_copied contents.signature;
}

-- The bytes are an encoding of the reply within the limit.
abbrev pub IsEncoding : ℕ → Reply → List ℕ → Type 0
IsEncoding limit reply bytes = (header : Header) × ReplyEncoded limit reply bytes header

-- The bytes are a message of this header for a request, within the limit: with the request's questions, an OPT record
-- if the request has one (RFC 6891 section 7), and no other record.
abbrev pub IsBare : ℕ → MessageRequest → Metadata → List ℕ → Type 0
IsBare limit request metadata =
    IsEncoding limit (bare_message metadata request.queries.bytes (length request.queries.queries) (reply_edns None request.edns))

-- the header with TC (RFC 1035 section 4.1.1)
abbrev pub with_tc : Metadata → Metadata
with_tc metadata = record metadata { truncation = true }
