use Rattle.std.proofs.Common.{[], ◌+◌, subst, sym, take}
use Rattle.std.proofs.lemmas.List.{take_all}
use Rattle.zone_answers.proofs.lemmas.zones.Glue.{walks_on}
use Rattle.zone_answers.specs.representation.TopCuts.{AreEach, IsHostPlace}
use Rattle.zone_answers.specs.Zones.{Records}
use Rattle.zone_answers.proofs.cuts.host_places.Goals as goal

pub loop-q-init : goal.loop-q-init
loop-q-init c = subst (AreEach (IsHostPlace c.args.origin.now c.args.sets.now) []) (sym c.in_ok-places.ensures.items) tt

pub loop-q-preserved : goal.loop-q-preserved
loop-q-preserved c =
    let each = IsHostPlace c.args.origin.now c.args.sets.now in
    let i = c.loop-q.q-index in
    subst (AreEach each (take (i + 1) c.args.servers.now)) (sym c.in_ok-push.ensures.items)
    (walks_on each c.args.servers.now i c.q-item.result c.loop-q.places.items c.in_ok-host_place.field-0 c.loop-q-test.true c.q-item.is c.loop-q.invariant c.in_ok-host_place.ensures)

pub returns : goal.returns
returns c = subst (λ (rs : Records). AreEach (IsHostPlace c.args.origin.now c.args.sets.now) rs c.loop-q.places.items) (take_all c.loop-q.q-index c.args.servers.now c.loop-q-test.false) c.loop-q.invariant
