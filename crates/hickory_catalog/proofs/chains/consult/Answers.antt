use Rattle.std.proofs.Common.{arith, rules, refl}
use Rattle.hickory_catalog.proofs.lemmas.queries.ConsultedFromPlace.{on_memory, on_step, on_end}
use Rattle.hickory_catalog.proofs.chains.consult.Goals as goal

pub returns-then-wants_memory : goal.returns-then-wants_memory
returns-then-wants_memory g c =
    on_memory _ _ _ c.args.handlers.now _ c.loop-i.i c.loop-i.given c.loop-i.invariant (search rules)

pub loop-i-preserved : goal.loop-i-preserved
loop-i-preserved g c =
    let gave = c.consult_one.ensures in
    on_step _ _ _ c.args.handlers.now _ c.loop-i.i c.index-handlers-i.result c.loop-i.given c.consult_one.new.given gave.0
    c.loop-i.invariant (omega arith) c.index-handlers-i.is (search rules) gave.1 gave.2

pub returns : goal.returns
returns g c = on_end _ _ _ c.args.handlers.now _ c.loop-i.i _ c.loop-i.given c.loop-i.invariant refl (omega arith)
