-- A request as it is written (RFC 1035 section 4.1).
use Rattle.std.specs.Prelude.{ℕ, List, [], length}
use Rattle.std.specs.List.{flat_map}
use Rattle.wire_messages.specs.serialize.writing.QuestionForm.{lower_question, question_octets}
use Rattle.wire_messages.specs.serialize.writing.Reply.{Reply}
use Rattle.wire_messages.specs.declared.op.query.Query.{Query}
use Rattle.hickory_base.specs.declared.requests.message_request.MessageRequest.{MessageRequest}

-- questions one behind the other, names in lower case
abbrev pub questions_form : List Query → List ℕ
questions_form queries = flat_map (λ query. question_octets (lower_question query)) queries

-- What is written of a request is what would be written of a reply with the same parts: its header, its questions anew
-- and counted, and the same lists. EDNS is written with all the flags that it has.
abbrev pub written_form : MessageRequest → Reply
written_form m = record {
  metadata = m.metadata;
  question = questions_form m.queries.queries;
  question_count = length m.queries.queries;
  edns = m.edns;
  answers = m.answers;
  authorities = m.authorities;
  soa = [];
  additionals = m.additionals;
  signature = m.signature;
}
