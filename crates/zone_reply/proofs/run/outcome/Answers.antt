use Rattle.std.proofs.Common.{◌≡◌, ◌∷◌, [], inl, inr, rules}
use Rattle.hickory_catalog.specs.requests.Server.{server_of}
use Rattle.zone_reply.proofs.Serving.{fails, one_step}
use Rattle.zone_reply.proofs.run.outcome.Goals as goal

pub returns-in-Ok-clause-left : goal.returns-in-Ok-clause-left
returns-in-Ok-clause-left g c =
    let is : c.push.new.self.items ≡ c.incoming.result ∷ [] = search rules in
    let step = one_step c.new-access.result (server_of g.H.ZoneHandler g.S.ReplySigner.signature_for c.args.catalog.now) c.incoming.result c.in-Ok.outcomes.items c.serve_all.new.catalog.zones
    (rw is at c.in-Ok.ensures.ok) in
    inr (inl (
      step.0,
      record {
        message = c.incoming.result;
        is_incoming = c.incoming.ensures;
        access = c.new-access.result;
        is_open = record { deny = c.new-access.ensures.deny; allow = c.new-access.ensures.allow };
        step = step.2;
      },
    ))

pub returns-in-Ok-clause-ok : goal.returns-in-Ok-clause-ok
returns-in-Ok-clause-ok g c =
    let is : c.push.new.self.items ≡ c.incoming.result ∷ [] = search rules in
    let step = one_step c.new-access.result (server_of g.H.ZoneHandler g.S.ReplySigner.signature_for c.args.catalog.now) c.incoming.result c.in-Ok.outcomes.items c.serve_all.new.catalog.zones
    (rw is at c.in-Ok.ensures.ok) in (
      step.0,
      step.1,
      record {
        message = c.incoming.result;
        is_incoming = c.incoming.ensures;
        access = c.new-access.result;
        is_open = record { deny = c.new-access.ensures.deny; allow = c.new-access.ensures.allow };
        step = step.2;
      },
    )

pub returns-clause-left : goal.returns-clause-left
returns-clause-left g c =
    let is : c.push.new.self.items ≡ c.incoming.result ∷ [] = search rules in
    let failed = rw is at c.in-Err.ensures.err in
    inr (inr (fails c.new-access.result (server_of g.H.ZoneHandler g.S.ReplySigner.signature_for c.args.catalog.now) c.args.protocol c.args.bytes.items c.incoming.result c.incoming.ensures
    (record { deny = c.new-access.ensures.deny; allow = c.new-access.ensures.allow }) _ _ c.serve_all.new.catalog.zones failed))
