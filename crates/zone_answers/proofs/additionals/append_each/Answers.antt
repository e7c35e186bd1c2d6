use Rattle.std.proofs.Common.{drop}
use Rattle.hickory_base.specs.zone_store.ZoneSets.{sets_of}
use Rattle.zone_answers.specs.Zones.{Zone}
use Rattle.zone_answers.proofs.lemmas.replies.Hosts.{ended, none_left, one_more}
use Rattle.zone_answers.proofs.additionals.append_each.Goals as goal

pub loop-q-preserved : goal.loop-q-preserved
loop-q-preserved c =
    let zone : Zone = record { origin = c.args.zone.origin.now; sets = sets_of c.args.zone.sets.now } in
    one_more c.args.source zone c.args.answers.now c.args.all.now.items c.args.naming.now c.loop-q.q-index c.q-item.result c.loop-q.all.items c.append_host.new.all.items c.loop-q-test.true c.q-item.is
    c.loop-q.invariant c.in_ok-append_host.ensures

pub returns : goal.returns
returns c =
    let zone : Zone = record { origin = c.args.zone.origin.now; sets = sets_of c.args.zone.sets.now } in
    ended c.args.source zone c.args.answers.now c.args.all.now.items c.args.naming.now (drop c.loop-q.q-index c.args.naming.now) c.loop-q.all.items
    (none_left c.args.naming.now c.loop-q.q-index c.loop-q-test.false) c.loop-q.invariant
