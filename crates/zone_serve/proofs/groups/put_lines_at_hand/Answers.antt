use Rattle.zone_serve.specs.Groups.{contents}
use Rattle.zone_serve.proofs.ServedGroups.{pushed}
use Rattle.zone_serve.proofs.ServedLines.{put_more}
use Rattle.zone_serve.proofs.groups.put_lines_at_hand.Goals as goal

pub loop-preserved : goal.loop-preserved
loop-preserved g c =
    put_more (g.R.Read.remaining c.args.reader.now) (g.R.Read.remaining c.loop.reader) (g.R.Read.remaining c.next_line.new.reader)
    (contents c.args.lines.now.items) (contents c.loop.lines.items) (contents c.push.new.self.items) c.in-Some.line.items c.loop.invariant
    (rw c.in-Some.is at c.in_ok-line.ensures) (pushed c.loop.lines.items c.push.new.self.items c.in-Some.line c.in_ok-push.ensures.items)
