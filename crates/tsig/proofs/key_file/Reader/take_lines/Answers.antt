use Rattle.tsig.proofs.KeyLines.{lines_end, lines_more}
use Rattle.tsig.proofs.key_file.Reader.take_lines.Goals as goal

pub loop-rest-preserved : goal.loop-rest-preserved
loop-rest-preserved c = λ new others.
    c.loop-rest.invariant new (lines_more c.loop-rest.rest.now _ c.loop-rest.self c.take_line.new.self new c.in-len1-up.len_at_least c.in_ok-take_line.ensures others)

pub returns : goal.returns
returns c = c.loop-rest.invariant c.loop-rest.self (lines_end c.loop-rest.rest.now c.loop-rest.self c.in_default.len_below)
