-- What a server replies from a zone that answers standard queries.
use Rattle.std.specs.Prelude.{◌≡◌}
use Rattle.wire_messages.specs.declared.op.query.Query.{Query}
use Rattle.hickory_base.specs.requests.Requests.{ReceivedRequest}
use Rattle.hickory_base.specs.zone_store.ZoneAnswers.{MemoryZone}
use Rattle.hickory_base.specs.declared.zone_store.lookup.WholeReply.{WholeReply}
use Rattle.hickory_catalog.specs.queries.Queries.{whole_contents}
use Rattle.hickory_catalog.specs.replies.Replies.{Contents}
use Rattle.zone_replies.specs.Replies.{RepliesTo, as_zone}

-- The server says what the zone replies to the question, and nothing else.
pub record SaysTheReply (zone : MemoryZone) (request : ReceivedRequest) (query : Query) (contents : Contents) : Type 0 where
  pub reply : WholeReply
  pub replies : RepliesTo (as_zone zone) query reply
  pub says : contents ≡ whole_contents request.message.metadata reply
