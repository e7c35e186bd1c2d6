use Rattle.std.proofs.Common.{◌≡◌, ◌++◌}
use Rattle.hickory_catalog.specs.requests.Server.{server_of}
use Rattle.hickory_server.specs.server.Serving.{Run}
use Rattle.hickory_server.proofs.server.serve.serve_all.Given as goal

-- the messages so far have their outcomes
abbrev pub invariant-loop-message : goal.invariant-loop-message
invariant-loop-message g l =
    (l.catalog ≡ record l.fn.catalog { zones = l.catalog.zones })
    × Run l.access (server_of g.H.ZoneHandler g.S.ReplySigner.signature_for l.fn.catalog) l.fn.catalog.zones l.yielded l.outcomes.items l.catalog.zones
    × (l.fn.messages.items ≡ l.yielded ++ l.message-iterator.rest.items)
