-- The lines so far stand behind those of before.
use Rattle.zone_serve.specs.Groups.{contents}
use Rattle.zone_serve.proofs.ServedLines.{PutSoFar}
use Rattle.zone_serve.proofs.groups.put_lines_at_hand.Given as goal

abbrev pub invariant-loop : goal.invariant-loop
invariant-loop g l = PutSoFar (g.R.Read.remaining l.initial.reader) (g.R.Read.remaining l.reader) (contents l.fn.lines.items) (contents l.lines.items)
