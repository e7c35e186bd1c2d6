-- Replies by their parts.
use Rattle.std.specs.Prelude.{ℕ, List, [], ◌++◌, length, Option, None}
use Rattle.std.specs.Option.{option_to_list}
use Rattle.wire_messages.specs.op.EdnsFields.{EdnsFields}
use Rattle.wire_messages.specs.serialize.writing.Reply.{Reply}
use Rattle.wire_messages.specs.declared.op.header.Metadata.{Metadata}
use Rattle.wire_messages.specs.declared.rr.rdata.RData.{RData}
use Rattle.wire_messages.specs.declared.rr.record.Record.{Record}
use Rattle.hickory_base.specs.responses.Responses.{error_metadata}
use Rattle.hickory_base.specs.declared.requests.message_request.MessageRequest.{MessageRequest}
use Rattle.hickory_catalog.specs.replies.ReplyEdns.{with_high_code}
use Rattle.hickory_catalog.specs.declared.contents.ReplyContents.{ReplyContents}

-- What a reply says beside the questions and the EDNS of its request: its metadata, and the records of its sections but
-- for OPT and TSIG (RFC 1035 section 4.1).
pub record Contents : Type 0 where
  pub metadata : Metadata
  pub answers : List (Record RData)
  pub authorities : List (Record RData)
  pub additionals : List (Record RData)

-- no records
abbrev pub bare_contents : Metadata → Contents
bare_contents metadata = record { metadata = metadata; answers = []; authorities = []; additionals = [] }

-- The reply to a request that says this. It repeats the questions of the request, has this EDNS, and has no signature.
abbrev pub plain_reply : MessageRequest → Option EdnsFields → Contents → Reply
plain_reply request edns contents = record {
  metadata = contents.metadata;
  question = request.queries.bytes;
  question_count = length request.queries.queries;
  edns = edns;
  answers = contents.answers;
  authorities = contents.authorities;
  soa = [];
  additionals = contents.additionals;
  signature = None;
}

-- the reply of these parts, whose EDNS has the high bits of the response code
abbrev pub unsigned_reply : MessageRequest → Option EdnsFields → Contents → Reply
unsigned_reply request edns contents = plain_reply request (with_high_code contents.metadata.response_code edns) contents

-- what an error reply says: a response code, and no records
abbrev pub error_contents : Metadata → ℕ → Contents
error_contents request code = bare_contents (error_metadata request code)

-- an error reply
abbrev pub error_reply : MessageRequest → Option EdnsFields → ℕ → Reply
error_reply request edns code = unsigned_reply request edns (error_contents request.metadata code)

-- what a reply says, by what the program keeps of it: the authority section in three parts
abbrev pub contents_of : ReplyContents → Contents
contents_of made = record { metadata = made.metadata; answers = made.answers; authorities = option_to_list made.soa ++ (made.authorities ++ made.other_authorities); additionals = made.additionals }
