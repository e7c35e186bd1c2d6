-- What an update says (RFC 2136 section 2): its sections under the names that they have there.
use Rattle.std.specs.Prelude.{ℕ, List, Option}
use Rattle.wire_messages.specs.declared.op.query.Query.{Query}
use Rattle.wire_messages.specs.declared.rr.rdata.RData.{RData}
use Rattle.wire_messages.specs.declared.rr.record.Record.{Record}
use Rattle.wire_messages.specs.declared.rr.tsig.TSIG.{TSIG}
use Rattle.hickory_base.specs.declared.requests.message_request.MessageRequest.{MessageRequest}

pub record UpdateMessage : Type 0 where
  pub id : ℕ
  pub zones : List Query
  pub prerequisites : List (Record RData)
  pub updates : List (Record RData)
  pub additionals : List (Record RData)
  pub signature : Option (Record TSIG)

-- the questions name the zone, the answers are the prerequisites, the authorities the updates
abbrev pub update_of : MessageRequest → UpdateMessage
update_of m = record {
  id = m.metadata.id;
  zones = m.queries.queries;
  prerequisites = m.answers;
  updates = m.authorities;
  additionals = m.additionals;
  signature = m.signature;
}
