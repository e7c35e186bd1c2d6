-- The messages so far are answered.
use Rattle.std.proofs.Common.{◌≡◌, ◌≤◌, ◌*◌, None, length}
use Rattle.signed_server.specs.KeyedServers.{keyed_of}
use Rattle.server.specs.Serving.{IsAnsweredStream, Stays, standing_of}
use Rattle.server.proofs.answering.Answering.answer_whole.Given as goal

abbrev pub invariant-loop : goal.invariant-loop
invariant-loop g l = Stays l.fn.self.server l.self.server
    × (length l.out ≡ length l.fn.out)
    × (l.written ≤ length l.out)
    × (2 * l.counter ≤ l.consumed)
    × (l.consumed ≤ length l.bytes)
    × IsAnsweredStream (keyed_of g.H.ZoneHandler g.S.ReplySigner.signature_for l.fn.self.server) l.fn.self.log (record { bytes = l.bytes; source = l.source; now = l.now })
    (record { consumed = l.consumed; written = l.written; refusal = None }) l.out (standing_of l.self)
