-- When two messages of requests are the same: in each field, records as records compare, by neither TTL nor proof,
-- names in any letter case, and the bytes of the questions as bytes.
use Rattle.std.specs.Prelude.{◌≡◌, Option, Some, None}
use Rattle.std.specs.List.{AllZip}
use Rattle.wire_messages.specs.op.QuestionSameness.{SameQuestion}
use Rattle.wire_messages.specs.rr.RecordSameness.{SameRecord}
use Rattle.wire_messages.specs.serialize.layout.MessageLayout.{tsig_record}
use Rattle.wire_messages.specs.declared.rr.record.Record.{Record}
use Rattle.wire_messages.specs.declared.rr.tsig.TSIG.{TSIG}
use Rattle.hickory_base.specs.requests.Questions.{QuestionSection}
use Rattle.hickory_base.specs.declared.requests.message_request.MessageRequest.{MessageRequest}

-- the same questions one by one, and the same bytes
pub record SameQuestions (a b : QuestionSection) : Type 0 where
  pub queries : AllZip SameQuestion a.queries b.queries
  pub bytes : a.bytes ≡ b.bytes

-- the same TSIG record, or none in both
abbrev pub SameSignature : Option (Record TSIG) → Option (Record TSIG) → Type 0
SameSignature None None = Unit {0}
SameSignature None (Some b) = ⊥
SameSignature (Some a) None = ⊥
SameSignature (Some a) (Some b) = SameRecord (tsig_record a) (tsig_record b)

-- Messages are the same.
pub record SameMessage (a b : MessageRequest) : Type 0 where
  pub metadata : a.metadata ≡ b.metadata
  pub queries : SameQuestions a.queries b.queries
  pub answers : AllZip SameRecord a.answers b.answers
  pub authorities : AllZip SameRecord a.authorities b.authorities
  pub additionals : AllZip SameRecord a.additionals b.additionals
  pub signature : SameSignature a.signature b.signature
  pub edns : a.edns ≡ b.edns
