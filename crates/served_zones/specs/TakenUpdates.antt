-- Which update a zone answered `Ok`, read off what became of a message (RFC 2136 section 3.8: its reply says NOERROR).
use Rattle.std.specs.Prelude.{ℕ, List, Option, None, Some, Ok, Err}
use Rattle.std.proofs.Common.{inl, inr}
use Rattle.wire_names.specs.rr.domain.DomainName.{DomainName}
use Rattle.wire_messages.specs.op.EdnsFields.{EdnsFields}
use Rattle.wire_messages.specs.serialize.writing.Reply.{Reply}
use Rattle.server_limits.specs.Access.{AccessSets}
use Rattle.hickory_base.specs.requests.Requests.{ReceivedRequest, TimedRequest}
use Rattle.hickory_base.specs.zone_store.Lookups.{UpdateResult}
use Rattle.hickory_catalog.specs.requests.Requests.{RequestAnswered}
use Rattle.hickory_catalog.specs.requests.Requests as requests
use Rattle.hickory_catalog.specs.requests.Server.{Server}
use Rattle.hickory_catalog.specs.updates.Updates.{UpdateReply}
use Rattle.hickory_catalog.specs.updates.Updates as updates
use Rattle.hickory_server.specs.server.ServedBy.{RequestServed, ServedBy, ZonesAnswer}
use Rattle.hickory_server.specs.server.ServedBy as by_rules
use Rattle.hickory_server.specs.server.Serving.{LeavesUnserved}
use Rattle.hickory_server.specs.declared.server.answer.Answer.{Answer}
use Rattle.hickory_server.specs.declared.server.rules.Rules.{Rules}
use Rattle.hickory_server.specs.declared.server.serve.Incoming.{Incoming}
use Rattle.hickory_server.specs.declared.server.serve.ServeError.{ServeError}
use Rattle.hickory_server.specs.declared.server.serve.ServeError.TheVariants.{Memory, MemoryAfterHandling}

-- an update that was taken, at its moment, with the name of its zone; or none
abbrev pub Taken : Type 0
Taken = Option (DomainName × TimedRequest)

abbrev pub taken_by : UpdateResult → DomainName → TimedRequest → Taken
taken_by (Ok changed) name update = Some (name, update)
taken_by (Err fault) name update = None

module _ {H : Type 0} {server : Server H} {request : ReceivedRequest} {now : ℕ} where
  abbrev pub by_update : {edns : Option EdnsFields} {reply : Reply} {zones : List (DomainName × List H)} → UpdateReply server request edns now reply zones → Taken
  by_update (updates.answered {name = name} {answer = answer} _ _ _ _ _) = taken_by answer name (request, now)
  by_update other = None

  abbrev pub by_answer : {replies : List Reply} {zones : List (DomainName × List H)} → RequestAnswered server request now replies zones → Taken
  by_answer (requests.updates _ _ answered) = by_update answered.is_reply
  by_answer other = None

  abbrev pub by_zones : {replies : List Reply} {zones : List (DomainName × List H)} → ZonesAnswer server request now replies zones → Taken
  by_zones (by_rules.own _ answered) = by_answer answered
  by_zones other = None

  abbrev pub by_request : {rules : Rules} {sent : List (List ℕ)} {zones : List (DomainName × List H)} → RequestServed rules server request now sent zones → Taken
  by_request (by_rules.passed _ answer _) = by_zones answer
  by_request other = None

-- the update that was taken in a message
abbrev pub taken_in : {H : Type 0} {rules : Rules} {server : Server H} {message : Incoming} {answer : Answer} {zones : List (DomainName × List H)} → ServedBy rules server message answer zones → Taken
taken_in (by_rules.request _ _ _ _ served _) = by_request served
taken_in other = None

-- and in one for which memory was refused
abbrev pub taken_without_reply : {H : Type 0} (access : AccessSets) (server : Server H) (message : Incoming) (zones : List (DomainName × List H)) (e : ServeError) → LeavesUnserved access server message e zones → Taken
taken_without_reply access server message zones Memory left = None
taken_without_reply access server message zones MemoryAfterHandling (_, request, _, _, inl (_, _, answered)) = by_answer answered
taken_without_reply access server message zones MemoryAfterHandling (_, request, _, _, inr (_, _, (_, _, (name, _, _, _, _)))) = Some (name, (request, message.now))
