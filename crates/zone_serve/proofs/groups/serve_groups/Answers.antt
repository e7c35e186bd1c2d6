use Rattle.std.proofs.Common.{◌≡◌, ◌∙◌, ℕ, ap, length, rules, subst, sym}
use Rattle.std.specs.Prelude.{◌==◌}
use Rattle.signed_server.specs.declared.service.SignedServer.{SignedServer}
use Rattle.hickory_catalog.specs.declared.catalog.Catalog.{Catalog}
use Rattle.zone_serve.specs.Groups.{GroupServed, contents}
use Rattle.signed_server.specs.KeyedServers.{keyed_of}
use Rattle.server.specs.Serving.{Stays}
use Rattle.zone_serve.proofs.ServedGroups.{some_lines}
use Rattle.zone_serve.proofs.ServedLines.{so_far_more, so_far_none}
use Rattle.server.proofs.Streams.{stays_on, stays_so}
use Rattle.zone_serve.proofs.groups.serve_groups.Goals as goal

pub loop-init : goal.loop-init
loop-init g c = (
  stays_so c.args.server.now,
  so_far_none (g.O.Holder.begins c.args.holder.now) (g.O.Holder.settles c.args.holder.now) (keyed_of g.H.ZoneHandler g.S.ReplySigner.signature_for c.args.server.now)
      (g.R.Read.remaining c.args.reader.now) (g.W.Write.contents c.args.writer.now),
)

pub loop-preserved : goal.loop-preserved
loop-preserved g c =
    let (stays, so_far) = c.loop.invariant in
    let served_by : SignedServer g.row.S.Denot g.row.H.Denot = c.serve_group.new.server in
    let last : SignedServer g.row.S.Denot g.row.H.Denot = record served_by { server = record served_by.server { catalog = c.after_lines.new.catalog } } in
    let same : last ≡ served_by = ap (λ (it : Catalog g.row.S.Denot g.row.H.Denot). let after : SignedServer g.row.S.Denot g.row.H.Denot = record served_by { server = record served_by.server { catalog = it } } in after) c.after_lines.ensures in
    let so_far_stays = stays_on c.args.server.now c.loop.server served_by stays c.in_ok-first_bad.ensures.stays in
    let size : c.in_ok-lines.lines.len ≡ length c.in_ok-lines.lines.items = search rules in
    let (back, served, appends) = c.in_ok-first_bad.ensures.served in (
      subst (λ (s : SignedServer g.row.S.Denot g.row.H.Denot). Stays c.args.server.now s) (sym same) so_far_stays,
      so_far_more (g.O.Holder.begins c.args.holder.now) (g.O.Holder.settles c.args.holder.now) g.H.ZoneHandler g.S.ReplySigner.signature_for
          c.args.server.now c.loop.server last stays
          (g.R.Read.remaining c.args.reader.now) (g.R.Read.remaining c.loop.reader) (g.R.Read.remaining c.next_group.new.reader)
          (g.W.Write.contents c.args.writer.now) (g.W.Write.contents c.loop.writer) (g.W.Write.contents c.serve_group.new.writer)
          (contents c.in_ok-lines.lines.items) back (some_lines c.in_ok-lines.lines.items (ap (λ (n : ℕ). n == 0) (sym size) ∙ sym c.is_empty.ensures ∙ c.if-is_empty.false)) so_far c.in_ok-lines.ensures
          (subst (λ (s : SignedServer g.row.S.Denot g.row.H.Denot). GroupServed (g.O.Holder.begins c.args.holder.now) (g.O.Holder.settles c.args.holder.now) (keyed_of g.H.ZoneHandler g.S.ReplySigner.signature_for c.loop.server) (contents c.in_ok-lines.lines.items) back s.server.catalog.zones)
          (sym same) (rw c.deref.ensures.value at served)) appends,
    )
