use Rattle.std.proofs.Common.{sym, arith}
use Rattle.std.proofs.lemmas.List.{length-take-le, take_all}
use Rattle.server_reports.proofs.log.front_of.Goals as goal

pub returns-then-message-le-MOST_FRONT : goal.returns-then-message-le-MOST_FRONT
returns-then-message-le-MOST_FRONT c = sym (take_all 271 c.args.message.now (omega (arith, c.if-message-le-MOST_FRONT.true)))

pub slice_bounds-result-end : goal.slice_bounds-result-end
slice_bounds-result-end c = sym (length-take-le 271 c.args.message.now (omega (arith, c.if-message-le-MOST_FRONT.false)))
