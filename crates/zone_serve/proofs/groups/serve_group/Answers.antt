use Rattle.std.proofs.Common.{◌≡◌, false, refl, rules, true}
use Rattle.signed_server.specs.declared.service.SignedServer.{SignedServer}
use Rattle.zone_serve.specs.Groups.{contents}
use Rattle.server.specs.Serving.{Stays}
use Rattle.zone_serve.proofs.Results.{on_ok}
use Rattle.zone_serve.proofs.ServedGroups.{as_ever, settled}
use Rattle.zone_serve.proofs.groups.serve_group.Goals as goal

pub returns-then-not-branch-clause-served : goal.returns-then-not-branch-clause-served
returns-then-not-branch-clause-served g c =
    let held : SignedServer g.row.S.Denot g.row.H.Denot = record c.args.server.now { server = record c.args.server.now.server { catalog = c.begin.new.catalog } } in
    let stays : Stays c.args.server.now held = record { keys = refl; transfer_keys = refl; rules = refl; others = c.in_ok-begin.ensures.others } in
    let none : c.in_ok-begin.field-0 ≡ false = search rules in
    on_ok c.serve_each.result _ _
    (λ served. (
      served.0,
      as_ever g.H.ZoneHandler g.S.ReplySigner.signature_for (g.O.Holder.begins c.args.holder.now) (g.O.Holder.settles c.args.holder.now) c.args.server.now held stays
          (contents c.args.lines.now) served.0 c.serve_each.new.server.server.catalog.zones (rw none at c.in_ok-begin.ensures.begun) served.1,
      served.2,
    ))
    c.serve_each.ensures.served

pub returns-clause-served : goal.returns-clause-served
returns-clause-served g c =
    let held : SignedServer g.row.S.Denot g.row.H.Denot = record c.args.server.now { server = record c.args.server.now.server { catalog = c.begin.new.catalog } } in
    let stays : Stays c.args.server.now held = record { keys = refl; transfer_keys = refl; rules = refl; others = c.in_ok-begin.ensures.others } in
    let holds : c.in_ok-begin.field-0 ≡ true = search rules in
    let (ahead, each, written) = c.in_ok-told.ensures.served in (
      c.in_ok-told.told.answers.items,
      settled g.H.ZoneHandler g.S.ReplySigner.signature_for (g.O.Holder.begins c.args.holder.now) (g.O.Holder.settles c.args.holder.now) c.args.server.now held stays
          (contents c.args.lines.now) c.in_ok-told.told.answers.items ahead c.answer_held.new.server.server.catalog.zones (rw holds at c.in_ok-begin.ensures.begun) each written,
      rw c.deref.ensures.value at c.in_ok-write.ensures,
    )
