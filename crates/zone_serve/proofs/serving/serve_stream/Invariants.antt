-- The messages so far are served.
use Rattle.std.proofs.Common.{ℕ, List}
use Rattle.std.specs.Io.KnownBytes.{Appends, Consumes}
use Rattle.signed_server.specs.KeyedServers.{keyed_of}
use Rattle.server.specs.Serving.{Stays}
use Rattle.zone_serve.specs.Served.{StreamServed}
use Rattle.zone_serve.proofs.serving.serve_stream.Given as goal

abbrev pub invariant-loop : goal.invariant-loop
invariant-loop g l = Stays l.fn.server l.server
    × (read : List ℕ) × (written : List ℕ) × StreamServed (keyed_of g.H.ZoneHandler g.S.ReplySigner.signature_for l.fn.server) l.fn.address read written l.server.server.catalog.zones
    × Consumes (g.R.Read.remaining l.initial.reader) (g.R.Read.remaining l.reader) read × Appends (g.W.Write.contents l.initial.writer) (g.W.Write.contents l.writer) written
