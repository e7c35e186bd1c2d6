use Rattle.std.proofs.Common.{arith, subst, refl}
use Rattle.hickory_base.specs.declared.zone_store.lookup.LookupOptions.{LookupOptions}
use Rattle.hickory_catalog.specs.queries.Transcripts.{Asked}
use Rattle.hickory_catalog.proofs.lemmas.queries.ChainsFromPlace.{on_skip, on_answer, on_end}
use Rattle.hickory_catalog.proofs.chains.ask.Goals as goal

pub returns-then-put_answer-clause-asked : goal.returns-then-put_answer-clause-asked
returns-then-put_answer-clause-asked g c =
    let gave = c.put_answer.ensures.answered c.if-put_answer.true in
    subst (λ (o : LookupOptions). Asked g.H.ZoneHandler c.args.request.now o c.args.chain.now c.loop-place.place c.put_answer.new.given) c.options_of-options.ensures
    (on_answer _ _ _ c.args.chain.now c.loop-place.place c.index-chain-place.result c.put_answer.new.given c.loop-place.invariant.on (omega arith) c.index-chain-place.is gave.1 gave.0)

pub loop-place-preserved : goal.loop-place-preserved
loop-place-preserved g c =
    let skipped = c.put_answer.ensures.skipped c.if-put_answer.false in
    record {
      on = on_skip _ _ _ c.args.chain.now c.loop-place.place c.index-chain-place.result skipped.0 c.loop-place.invariant.on (omega arith) c.index-chain-place.is skipped.1;
      unsigned = skipped.2;
    }

pub returns-clause-asked : goal.returns-clause-asked
returns-clause-asked g c =
    rw (← c.options_of-options.ensures) (on_end _ _ _ c.args.chain.now c.loop-place.place _ c.loop-place.invariant.on refl (omega arith) (omega arith))
