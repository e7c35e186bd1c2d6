use Rattle.std.proofs.Common.{arith, rules, refl}
use Rattle.hickory_catalog.proofs.lemmas.transfers.TransfersFromPlace.{on_none, on_some, on_end}
use Rattle.hickory_catalog.proofs.transfers.ask_for_transfer.Goals as goal

pub loop-place-init : goal.loop-place-init
loop-place-init g c = λ answer r. r

pub returns-then-is_some : goal.returns-then-is_some
returns-then-is_some g c =
    on_some _ _ _ c.args.chain.now c.loop-place.place c.index-chain-place.result _ c.loop-place.invariant (omega arith) c.index-chain-place.is (search rules)
    (rw c.options_of-options.ensures at c.zone_transfer-answer.ensures)

pub loop-place-preserved : goal.loop-place-preserved
loop-place-preserved g c =
    on_none _ _ _ c.args.chain.now c.loop-place.place c.index-chain-place.result c.zone_transfer-answer.result c.loop-place.invariant (omega arith) c.index-chain-place.is (search rules)
    (rw c.options_of-options.ensures at c.zone_transfer-answer.ensures)

pub returns : goal.returns
returns g c = on_end _ _ _ c.args.chain.now c.loop-place.place _ c.loop-place.invariant refl (omega arith)
