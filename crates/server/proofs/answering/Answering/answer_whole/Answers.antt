use Rattle.std.proofs.Common.{[], refl, rules, arith, ◌∙◌, sym}
use Rattle.wire_messages.specs.declared.protocol.Protocol.TheVariants.{Tcp}
use Rattle.hickory_server.specs.server.ServedBy.{arrival}
use Rattle.hickory_server.specs.declared.server.answer.Answer.TheVariants.{Replies}
use Rattle.signed_server.specs.KeyedServers.{KeyedServer, keyed_of}
use Rattle.signed_server.specs.ServedWithKeys.{ServedWithKeys}
use Rattle.server.specs.Serving.{IsRefused, none, waiting_in}
use Rattle.server.proofs.Streams.{answered_more, at_zones, refused_last, rest_is, stays_on, stays_so, within_more}
use Rattle.server.proofs.answering.Answering.answer_whole.Goals as goal

pub loop-init : goal.loop-init
loop-init g c = (
  stays_so c.args.self.now.server,
  refl,
  search rules,
  search rules,
  search rules,
  record { messages = []; refused = []; are_messages = refl; replies = []; between = c.args.self.now.server.server.catalog.zones; exchange = none; last = (refl, refl); written = []; are_written = refl; all = sym c.requires },
)

pub returns-in-Err-clause-answered : goal.returns-in-Err-clause-answered
returns-in-Err-clause-answered g c =
    let (stays, len, room, turns, inside, so_far) = c.loop.invariant in
    let (begins, idle) = c.in-Some.ensures.some in
    let (waits, unwritten, same_log) = c.in-Err.ensures.kept in
    let first = c.args.self.now.server in
    rw (waits, idle, unwritten, same_log)
    (refused_last (keyed_of g.H.ZoneHandler g.S.ReplySigner.signature_for first) c.args.source c.args.now c.args.bytes.now c.loop.consumed c.loop.written c.loop.out c.loop.self.server.server.catalog.zones
    c.answer_at.new.self.server.server.catalog.zones c.args.self.now.log c.loop.self.log c.in-Some.message.now c.in-Err.refusal (rw idle at so_far) (rw (rest_is c.args.bytes.now c.loop.consumed) at begins)
    (at_zones g.H.ZoneHandler g.S.ReplySigner.signature_for first c.loop.self.server stays
    (λ (s : KeyedServer _). IsRefused s (arrival c.in-Some.message.now c.args.source Tcp c.args.now) c.in-Err.refusal c.answer_at.new.self.server.server.catalog.zones)
    c.in-Err.ensures.err))

pub returns-in-Err-clause-within : goal.returns-in-Err-clause-within
returns-in-Err-clause-within g c =
    let (stays, len, room, turns, inside, so_far) = c.loop.invariant in
    let (begins, idle) = c.in-Some.ensures.some in
    let (waits, unwritten, same_log) = c.in-Err.ensures.kept in
    (within_more c.args.bytes.now c.loop.consumed _ inside (rw (rest_is c.args.bytes.now c.loop.consumed) at begins), rw unwritten room)

pub returns-in-Err-clause-stays : goal.returns-in-Err-clause-stays
returns-in-Err-clause-stays g c =
    let (stays, len, room, turns, inside, so_far) = c.loop.invariant in
    stays_on c.args.self.now.server c.loop.self.server c.answer_at.new.self.server stays c.answer_at.ensures.stays

pub loop-preserved : goal.loop-preserved
loop-preserved g c =
    let (stays, len, room, turns, inside, so_far) = c.loop.invariant in
    let (begins, idle) = c.in-Some.ensures.some in
    let (sent, served, put, logged) = c.in-Ok.ensures.ok in
    let first = c.args.self.now.server in
    let front = rw (rest_is c.args.bytes.now c.loop.consumed) at begins in (
      stays_on first c.loop.self.server c.answer_at.new.self.server stays c.answer_at.ensures.stays,
      put.same_length ∙ len,
      put.within,
      omega arith,
      within_more c.args.bytes.now c.loop.consumed _ inside front,
      answered_more (keyed_of g.H.ZoneHandler g.S.ReplySigner.signature_for first) c.args.source c.args.now c.args.bytes.now c.loop.consumed c.loop.written c.loop.out c.loop.self.server.server.catalog.zones
          c.answer_at.new.self.server.server.catalog.zones c.args.self.now.log c.loop.self.log c.answer_at.new.self.log c.in-Some.message.now sent c.answer_at.new.out c.in-Ok.end (waiting_in c.answer_at.new.self) (rw idle at so_far) front
          (at_zones g.H.ZoneHandler g.S.ReplySigner.signature_for first c.loop.self.server stays
          (λ (s : KeyedServer _). ServedWithKeys s (arrival c.in-Some.message.now c.args.source Tcp c.args.now) (Replies sent) c.answer_at.new.self.server.server.catalog.zones)
          served)
          logged put,
    )
