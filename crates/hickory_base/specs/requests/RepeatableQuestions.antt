-- Questions that a reply can repeat as the bytes that they were sent in (RFC 1035 sections 4.1.1, 4.1.2 and 4.1.4).
use Rattle.std.specs.Prelude.{◌≡◌, ℕ, ◌≤◌, List, length, take, slice_range}
use Rattle.std.specs.List.{AllByRecursion}
use Rattle.wire_messages.specs.serialize.layout.MessageLayout.{ItemsAt}
use Rattle.wire_messages.specs.serialize.layout.QuestionLayout.{QuestionAt, IsFormedQuestion}
use Rattle.wire_messages.specs.declared.op.query.Query.{Query}
use Rattle.hickory_base.specs.requests.Requests.{ReceivedRequest}

-- No name of the questions, which stand one behind the other behind the header, leads into the header or runs on behind
-- the last question.
pub record AreRepeatable (bytes : List ℕ) (queries : List Query) : Type 0 where
  pub stop : ℕ
  pub stand : ItemsAt (QuestionAt 12 (take stop bytes)) 12 queries stop

-- So it is of the questions of the request; and the bytes that are repeated of them are those from the header to the
-- end of the last.
pub record HasRepeatableQuestions (request : ReceivedRequest) : Type 0 where
  pub stop : ℕ
  pub within : stop ≤ length request.bytes
  pub stand : ItemsAt (QuestionAt 12 (take stop request.bytes)) 12 request.message.queries.queries stop
  pub formed : AllByRecursion IsFormedQuestion request.message.queries.queries
  pub bytes_are : request.message.queries.bytes ≡ slice_range request.bytes 12 stop
