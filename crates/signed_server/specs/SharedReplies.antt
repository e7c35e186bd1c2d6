-- How a signed reply is sent over a stream: each message has room for its TSIG record, and none has TC, since there is
-- no other transport to turn to. A transfer is sent in as many messages as it takes (RFC 5936 section 2.2, RFC 8945
-- section 5.3.1).
use Rattle.std.specs.Prelude.{◌≡◌, ◌<◌, ◌≤◌, ◌/◌, ◌%◌, ℕ, Bool, false, List, [], ◌∷◌, ◌++◌, get_or, length, nat_eq, None}
use Rattle.wire_names.specs.declared.error.ProtoError.{ProtoError}
use Rattle.wire_messages.specs.serialize.writing.Reply.{Reply}
use Rattle.wire_messages.specs.declared.op.header.Header.{Header}
use Rattle.wire_messages.specs.declared.rr.rdata.RData.{RData}
use Rattle.wire_messages.specs.declared.rr.record.Record.{Record}
use Rattle.wire_reading.specs.serialize.layout.WholeMessage.{MessageAt}
use Rattle.hickory_wire.specs.serialize.writing.ReplyParts.{ReplyEncoded}
use Rattle.hickory_base.specs.requests.RequestReading.{IsFaultOf, IsQuestionSection, message_of}
use Rattle.hickory_base.specs.declared.requests.message_request.MessageRequest.{MessageRequest}
use Rattle.hickory_server.specs.server.Ruling.{AsksForTransfer}
use Rattle.tsig.specs.Signing.{HasRoom}

-- The message is within the limit, has a header, and one more record can be counted in it.
abbrev pub Fits : ℕ → List ℕ → Type 0
Fits limit message = (length message ≤ limit) × HasRoom message

-- whether TC is set: the second lowest bit of the third byte (RFC 1035 section 4.1.1)
abbrev pub has_tc : List ℕ → Bool
has_tc message = nat_eq (get_or message 2 0 / 2 % 2) 1

-- The message fits, and it has no TC.
abbrev pub FitsUncut : ℕ → List ℕ → Type 0
FitsUncut limit message = Fits limit message × (has_tc message ≡ false)

-- ---- the messages of a transfer

-- the message of these answers, with the header, the questions and the OPT record of another message
abbrev pub with_answers : MessageRequest → List (Record RData) → Reply
with_answers message answers = record {
  metadata = message.metadata;
  question = message.queries.bytes;
  question_count = length message.queries.queries;
  edns = message.edns;
  answers = answers;
  authorities = [];
  soa = [];
  additionals = [];
  signature = None;
}

-- The bytes are that message, as far as it has room.
abbrev pub IsEncoding : ℕ → MessageRequest → List (Record RData) → List ℕ → Type 0
IsEncoding limit message answers bytes = (header : Header) × ReplyEncoded limit (with_answers message answers) bytes header

-- The bytes are no header alone, which would say ServFail, and nothing was left out of them.
abbrev pub IsComplete : ℕ → List ℕ → Type 0
IsComplete limit bytes = (12 < length bytes) × FitsUncut limit bytes

-- The bytes are a message of all these answers.
abbrev pub IsPart : ℕ → MessageRequest → List (Record RData) → List ℕ → Type 0
IsPart limit message answers bytes = IsEncoding limit message answers bytes × IsComplete limit bytes

-- A message of these answers has no room for all of them.
abbrev pub HasNoRoom : ℕ → MessageRequest → List (Record RData) → Type 0
HasNoRoom limit message answers = (bytes : List ℕ) × IsEncoding limit message answers bytes × ¬ (IsComplete limit bytes)

-- The messages have these answers, one after the other: one message has all, or some messages have those before a place
-- and the others have those after it.
pub data AreParts (limit : ℕ) (message : MessageRequest) : List (Record RData) → List (List ℕ) → Type 0 where
  one : {answers : List (Record RData)} {bytes : List ℕ} → IsPart limit message answers bytes → AreParts limit message answers (bytes ∷ [])
  two : {front back : List (Record RData)} {parts others : List (List ℕ)} → AreParts limit message front parts → AreParts limit message back others
      → AreParts limit message (front ++ back) (parts ++ others)

-- A message of one of these answers, or of none if there are none, has no room for it.
pub data LacksRoom (limit : ℕ) (message : MessageRequest) : List (Record RData) → Type 0 where
  few : {answers : List (Record RData)} → length answers < 2 → HasNoRoom limit message answers → LacksRoom limit message answers
  in_front : {front : List (Record RData)} (back : List (Record RData)) → LacksRoom limit message front → LacksRoom limit message (front ++ back)
  in_back : (front : List (Record RData)) {back : List (Record RData)} → LacksRoom limit message back → LacksRoom limit message (front ++ back)

-- The message has no records but answers and OPT, as a message of a transfer (RFC 5936 section 2.2).
abbrev pub HasOnlyAnswers : MessageRequest → Type 0
HasOnlyAnswers message = (message.authorities ≡ []) × (message.additionals ≡ [])

-- The reply is read, and these messages have its answers.
pub record IsInParts (limit : ℕ) (reply : List ℕ) (parts : List (List ℕ)) : Type 0 where
  pub message : MessageRequest
  pub stands : MessageAt reply (message_of message)
  pub questions : IsQuestionSection reply message.queries
  pub only_answers : HasOnlyAnswers message
  pub are_parts : AreParts limit message message.answers parts

-- The reply is not read, has other records than answers, or has an answer for which there is no room.
pub data HasNoParts (limit : ℕ) (reply : List ℕ) : Type 0 where
  unread : {e : ProtoError} → IsFaultOf reply e → HasNoParts limit reply
  without_room : {message : MessageRequest} → MessageAt reply (message_of message) → IsQuestionSection reply message.queries
      → (HasOnlyAnswers message → LacksRoom limit message message.answers) → HasNoParts limit reply

-- ---- replies

-- The messages that a reply is sent in: itself if it fits, and else, if the request is for a transfer, messages of its
-- answers.
pub data IsSharedOut (limit : ℕ) (request : MessageRequest) (reply : List ℕ) (messages : List (List ℕ)) : Type 0 where
  whole : FitsUncut limit reply → messages ≡ reply ∷ [] → IsSharedOut limit request reply messages
  in_parts : ¬ (FitsUncut limit reply) → AsksForTransfer request → IsInParts limit reply messages → IsSharedOut limit request reply messages

-- The reply cannot be sent: it does not fit, and it is not of a transfer or cannot be sent in several messages.
pub data CannotBeSent (limit : ℕ) (request : MessageRequest) (reply : List ℕ) : Type 0 where
  one_message : ¬ (FitsUncut limit reply) → ¬ (AsksForTransfer request) → CannotBeSent limit request reply
  no_parts : ¬ (FitsUncut limit reply) → AsksForTransfer request → HasNoParts limit reply → CannotBeSent limit request reply

-- The messages that replies are sent in, in their order.
pub data AreSharedOut (limit : ℕ) (request : MessageRequest) : List (List ℕ) → List (List ℕ) → Type 0 where
  none : AreSharedOut limit request [] []
  more : {replies messages parts : List (List ℕ)} {reply : List ℕ} → AreSharedOut limit request replies messages → IsSharedOut limit request reply parts
      → AreSharedOut limit request (replies ++ reply ∷ []) (messages ++ parts)
