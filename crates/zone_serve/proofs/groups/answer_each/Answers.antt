use Rattle.std.proofs.Common.{rules}
use Rattle.zone_serve.specs.Groups.EachServed.{none}
use Rattle.zone_serve.proofs.ServedGroups.{each_more}
use Rattle.server.proofs.Streams.{stays_on, stays_so}
use Rattle.zone_serve.proofs.groups.answer_each.Goals as goal

pub loop-place-init : goal.loop-place-init
loop-place-init g c = (stays_so c.args.server.now, rw c.new-answers.ensures.items none)

pub loop-place-preserved : goal.loop-place-preserved
loop-place-preserved g c =
    let (stays, so_far) = c.loop-place.invariant in (
      stays_on c.args.server.now c.loop-place.server c.answer_line.new.server stays c.in_ok-told.ensures.stays,
      each_more g.H.ZoneHandler g.S.ReplySigner.signature_for c.args.server.now c.loop-place.server c.answer_line.new.server stays c.args.lines.now c.loop-place.place c.index-lines-place.result
          c.loop-place.answers.items c.in_ok-told.told.items c.append.new.self.items c.in_ok-told.tells (search rules) c.index-lines-place.is so_far
          (rw c.deref.ensures.value at c.in_ok-told.ensures.served) c.in_ok-append.ensures.items,
    )
