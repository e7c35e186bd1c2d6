use Rattle.std.proofs.Common.{◌≡◌, arith, sym, take}
use Rattle.std.proofs.lemmas.List.{take_all}
use Rattle.std.proofs.lemmas.List.Elements.{All-more, All-same, recursion_from_All}
use Rattle.zone_answers.specs.representation.TopCuts.{IsClearHost}
use Rattle.zone_answers.proofs.index.are_clear_hosts.Goals as goal

pub loop-place-preserved : goal.loop-place-preserved
loop-place-preserved c =
    All-more (IsClearHost c.args.marks.now) c.args.places.now c.loop-place.place-index _ (omega arith) c.loop-place.invariant (c.is_clear_host.ensures c.if-not-is_clear_host.false)

pub returns : goal.returns
returns c =
    let clear = IsClearHost c.args.marks.now in
    let all : take c.loop-place.place-index c.args.places.now ≡ c.args.places.now = take_all c.loop-place.place-index c.args.places.now (omega arith) in
    λ ok. recursion_from_All clear c.args.places.now (All-same clear c.args.places.now (take c.loop-place.place-index c.args.places.now) (sym all) c.loop-place.invariant)
