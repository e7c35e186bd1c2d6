use Rattle.std.proofs.Common.{sym, ◌∙◌}
use Rattle.tsig.proofs.KeyLines.{line_comment, line_end, line_more}
use Rattle.tsig.proofs.key_file.Reader.take_parts.Goals as goal

pub returns-then-is_comment : goal.returns-then-is_comment
returns-then-is_comment c =
    c.loop-rest.invariant c.loop-rest.self (line_comment c.loop-rest.rest.now _ c.loop-rest.self c.in-len1-up.len_at_least (sym c.is_comment.ensures ∙ c.if-is_comment.true))

pub loop-rest-preserved : goal.loop-rest-preserved
loop-rest-preserved c = λ new others.
    c.loop-rest.invariant new
    (line_more c.loop-rest.rest.now _ c.loop-rest.self c.take.new.self new c.in-len1-up.len_at_least (sym c.is_comment.ensures ∙ c.if-is_comment.false) c.in_ok-take.ensures others)

pub returns : goal.returns
returns c = c.loop-rest.invariant c.loop-rest.self (line_end c.loop-rest.rest.now c.loop-rest.self c.in_default.len_below)
