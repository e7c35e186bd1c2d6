-- What a server replies from a zone that it holds.
use Rattle.std.specs.Prelude.{Result}
use Rattle.wire_messages.specs.declared.op.query.Query.{Query}
use Rattle.hickory_base.specs.requests.Requests.{ReceivedRequest}
use Rattle.hickory_base.specs.declared.errors.LookupError.{LookupError}
use Rattle.hickory_base.specs.declared.zone_store.handler.ZoneHandler.{Ghosts}
use Rattle.hickory_base.specs.declared.zone_store.lookup.AuthLookup.{AuthLookup}
use Rattle.hickory_catalog.specs.queries.Queries.{HandlerReply}
use Rattle.hickory_catalog.specs.replies.Replies.{Contents}
use Rattle.hickory_server.specs.zone_handler.ZoneReplies.{SaysTheReply}
use Rattle.zone_replies.specs.Handled.{StandsFor}
use Rattle.zone_answers.specs.Zones.{AreOwners}
use Rattle.tsig.specs.declared.verifier.TsigVerifier.{TsigVerifier}
use Rattle.zones.specs.ZoneStates.{ZoneState}

-- Whatever stands for the reply of a zone of which each owner name may own records, the server makes that reply of it.
abbrev pub TheReplyIsMade : Ghosts (ZoneState TsigVerifier) → Type 0
TheReplyIsMade handler =
    (zone : ZoneState TsigVerifier) (request : ReceivedRequest) (query : Query) (result : Result AuthLookup LookupError) (contents : Contents)
    → AreOwners zone.updatable.zone.origin zone.updatable.zone.sets → StandsFor zone.updatable.zone query result
    → HandlerReply handler zone (handler.zone_type_of zone) (record { request = request; query = query }) result contents
    → SaysTheReply zone.updatable.zone request query contents
