use Rattle.std.proofs.Common.{◌++◌, [], refl, rules}
use Rattle.std.proofs.KnownBytes.{Appends-nil, Appends-trans}
use Rattle.zone_serve.specs.Groups.EachServed.{none}
use Rattle.zone_serve.proofs.ServedGroups.{each_more}
use Rattle.server.proofs.Streams.{stays_on, stays_so}
use Rattle.zone_serve.proofs.groups.serve_each.Goals as goal

pub loop-place-init : goal.loop-place-init
loop-place-init g c = (stays_so c.args.server.now, [], none, Appends-nil _)

pub loop-place-preserved : goal.loop-place-preserved
loop-place-preserved g c =
    let (stays, written, so_far, appends) = c.loop-place.invariant in (
      stays_on c.args.server.now c.loop-place.server c.answer_line.new.server stays c.in_ok-told.ensures.stays,
      written ++ c.in_ok-told.told.items,
      each_more g.H.ZoneHandler g.S.ReplySigner.signature_for c.args.server.now c.loop-place.server c.answer_line.new.server stays c.args.lines.now c.loop-place.place c.index-lines-place.result
          written c.in_ok-told.told.items (written ++ c.in_ok-told.told.items) c.in_ok-told.tells (search rules) c.index-lines-place.is so_far
          (rw c.deref.ensures.value at c.in_ok-told.ensures.served) refl,
      Appends-trans _ _ _ written c.in_ok-told.told.items appends (rw c.deref-in-loop-place.ensures.value at c.in_ok-write.ensures),
    )
