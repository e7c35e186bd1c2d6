-- The lines so far are served.
use Rattle.std.proofs.Common.{ℕ, List, take}
use Rattle.std.specs.Io.KnownBytes.{Appends}
use Rattle.zone_serve.specs.Groups.{EachServed, contents}
use Rattle.signed_server.specs.KeyedServers.{keyed_of}
use Rattle.server.specs.Serving.{Stays}
use Rattle.zone_serve.proofs.groups.serve_each.Given as goal

abbrev pub invariant-loop-place : goal.invariant-loop-place
invariant-loop-place g l = Stays l.fn.server l.server
    × (written : List ℕ) × EachServed (keyed_of g.H.ZoneHandler g.S.ReplySigner.signature_for l.fn.server) (contents (take l.place l.lines)) written l.server.server.catalog.zones
    × Appends (g.W.Write.contents l.initial.writer) (g.W.Write.contents l.writer) written
