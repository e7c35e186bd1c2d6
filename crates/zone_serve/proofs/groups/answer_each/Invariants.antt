-- The lines so far are served.
use Rattle.std.proofs.Common.{take}
use Rattle.zone_serve.specs.Groups.{EachServed, contents}
use Rattle.signed_server.specs.KeyedServers.{keyed_of}
use Rattle.server.specs.Serving.{Stays}
use Rattle.zone_serve.proofs.groups.answer_each.Given as goal

abbrev pub invariant-loop-place : goal.invariant-loop-place
invariant-loop-place g l = Stays l.fn.server l.server
    × EachServed (keyed_of g.H.ZoneHandler g.S.ReplySigner.signature_for l.fn.server) (contents (take l.place l.lines)) l.answers.items l.server.server.catalog.zones
