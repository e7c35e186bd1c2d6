use Rattle.std.proofs.Common.{◌≡◌, true, List, Result, Ok, IfOk, rules, refl}
use Rattle.std.specs.Net.Socket.{socket_ip}
use Rattle.wire_names.specs.rr.domain.DomainName.{DomainName}
use Rattle.wire_reading.specs.serialize.layout.WholeMessage.{MessageAt}
use Rattle.wire_reading.specs.serialize.reading.MessageReading.{Reads}
use Rattle.wire_names.specs.declared.error.ProtoError.{ProtoError}
use Rattle.server_limits.specs.Access.{AccessSets, IsAllowed}
use Rattle.hickory_base.specs.requests.RequestReading.{IsQuestionSection, message_of}
use Rattle.hickory_base.specs.requests.Requests.{ReceivedRequest}
use Rattle.hickory_catalog.specs.requests.Server.{Server}
use Rattle.hickory_server.specs.server.Sending.{SentReplies}
use Rattle.hickory_server.specs.server.Serving.{IsRequestOf, LeavesRequest, LeavesUnserved, handled, unreadable}
use Rattle.hickory_server.specs.declared.server.serve.Incoming.{Incoming}
use Rattle.hickory_server.specs.declared.server.serve.ServeError.{ServeError}
use Rattle.hickory_server.specs.declared.server.serve.ServeError.TheVariants.{Memory, MemoryAfterHandling}
use Rattle.hickory_server.proofs.server.serve.serve.Goals.{in-Ok+in-Ok-replies_to, in-Ok+in-Err-replies_to, in-Err-Memory, in-Err}
use Rattle.hickory_server.proofs.server.serve.serve.Goals as goal

-- the request that its message was read as
read_as : (message : Incoming) (request : ReceivedRequest) {result : Result ReceivedRequest ProtoError} → result ≡ Ok request
    → IfOk result (λ r. MessageAt message.bytes.items (message_of r.message)) → IfOk result (λ r. Reads message.bytes.items (message_of r.message)) → IfOk result (λ r. IsQuestionSection message.bytes.items r.message.queries)
    → IfOk result (λ r. r.bytes ≡ message.bytes.items) → IfOk result (λ r. r.was_read ≡ true) → IfOk result (λ r. (r.source ≡ message.src) × (r.protocol ≡ message.protocol)) → IsRequestOf message request
read_as message request is stands found questions raw was_read source =
    record { stands = rw is at stands; reads = rw is at found; questions = rw is at questions; raw = rw is at raw; was_read = rw is at was_read; source_is = (rw is at source).0; protocol_is = (rw is at source).1 }

-- what a request leaves is what its message leaves
unserved : {H : Type 0} (access : AccessSets) (server : Server H) (message : Incoming) (request : ReceivedRequest) (sink : SentReplies) (e : ServeError) (zones : List (DomainName × List H))
    → IsAllowed access.deny access.allow (socket_ip message.src) → IsRequestOf message request → LeavesRequest server request message.now sink e zones → LeavesUnserved access server message e zones
unserved access server message request sink Memory zones allowed read left = (allowed, left.2)
unserved access server message request sink MemoryAfterHandling zones allowed read left = (allowed, request, read, sink, left)

pub returns-clause-ok : goal.returns-clause-ok
returns-clause-ok g c =
    let allowed : IsAllowed c.args.access.now.deny c.args.access.now.allow (socket_ip c.args.message.src) = search rules in
    elim c.match-read.branch [
      | in-Ok+in-Ok-replies_to w ↦
          let it = c.from_bytes-read.ensures in
          let read = read_as c.args.message w.in-Ok.request w.in-Ok.is it.stands it.found it.questions it.raw it.was_read it.source in
          let r = w.in-Ok-replies_to.ensures.ok in
          rw (w.outcome-is, w.catalog-is) (handled allowed read r.1 r.2 refl)
      | in-Ok+in-Err-replies_to w ↦ rw w.outcome-is tt
      | in-Err-Memory w ↦ rw w.outcome-is tt
      | in-Err w ↦
          let fault = rw w.in-Err.is at c.from_bytes-read.ensures.fault in
          rw (w.outcome-is, w.catalog-is) (unreadable allowed (fault (search rules)) refl refl)
    ]

pub returns-clause-err : goal.returns-clause-err
returns-clause-err g c =
    let allowed : IsAllowed c.args.access.now.deny c.args.access.now.allow (socket_ip c.args.message.src) = search rules in
    elim c.match-read.branch [
      | in-Ok+in-Ok-replies_to w ↦ rw w.outcome-is tt
      | in-Ok+in-Err-replies_to w ↦
          let it = c.from_bytes-read.ensures in
          let read = read_as c.args.message w.in-Ok.request w.in-Ok.is it.stands it.found it.questions it.raw it.was_read it.source in
          let left = w.in-Err-replies_to.ensures.err in
          rw (w.outcome-is, w.catalog-is) (unserved _ _ c.args.message w.in-Ok.request left.0 _ _ allowed read left.1)
      | in-Err-Memory w ↦ rw (w.outcome-is, w.catalog-is) (allowed, refl)
      | in-Err w ↦ rw w.outcome-is tt
    ]
