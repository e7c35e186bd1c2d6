use Rattle.std.proofs.Common.{arith, None, refl}
use Rattle.hickory_catalog.proofs.lemmas.queries.ConsultedFromPlace.{on_start, on_step, on_end}
use Rattle.hickory_catalog.proofs.chains.all_leave.Goals as goal

pub loop-i-init : goal.loop-i-init
loop-i-init g c = λ given not. on_start _ _ _ c.args.handlers.now given

pub loop-i-preserved : goal.loop-i-preserved
loop-i-preserved g c = λ given not.
    on_step _ _ _ c.args.handlers.now given c.loop-i.i c.index-handlers-i.result given given None
    (c.loop-i.invariant given not) (omega arith) c.index-handlers-i.is not (c.leaves.ensures c.if-not-leaves.false given.0) refl

pub returns : goal.returns
returns g c = λ t given not. on_end _ _ _ c.args.handlers.now given c.loop-i.i _ given (c.loop-i.invariant given not) refl (omega arith)
