-- The groups so far are served.
use Rattle.signed_server.specs.KeyedServers.{keyed_of}
use Rattle.server.specs.Serving.{Stays}
use Rattle.zone_serve.proofs.ServedLines.{LinesSoFar}
use Rattle.zone_serve.proofs.groups.serve_groups.Given as goal

abbrev pub invariant-loop : goal.invariant-loop
invariant-loop g l = Stays l.fn.server l.server
    × LinesSoFar (g.O.Holder.begins l.fn.holder) (g.O.Holder.settles l.fn.holder) (keyed_of g.H.ZoneHandler g.S.ReplySigner.signature_for l.fn.server)
    (g.R.Read.remaining l.initial.reader) (g.R.Read.remaining l.reader) (g.W.Write.contents l.initial.writer) (g.W.Write.contents l.writer) l.server.server.catalog.zones
