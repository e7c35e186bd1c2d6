use Rattle.std.proofs.Common.{◌≡◌, None, Some, sym}
use Rattle.hickory_base.specs.zone_store.ZoneSets.{sets_of}
use Rattle.zone_answers.specs.Additionals.{host_in}
use Rattle.zone_answers.specs.Zones.{Zone}
use Rattle.zone_answers.proofs.lemmas.replies.Hosts.{by_host, by_none, on_ok}
use Rattle.zone_answers.proofs.additionals.append_host.Goals as goal

pub returns-in-Some : goal.returns-in-Some
returns-in-Some c =
    let zone : Zone = record { origin = c.args.zone.origin.now; sets = sets_of c.args.zone.sets.now } in
    let says : host_in c.args.q.now.rdata ≡ Some c.in-Some.name = sym (rw c.in-Some.is at c.in_ok-name.ensures) in
    on_ok c.append_addresses.result _ _ c.append_addresses.ensures
    (λ a. by_host c.args.source zone c.args.answers.now c.args.q.now.rdata c.in-Some.name c.args.all.now.items c.append_addresses.new.all.items says (rw c.source_of-source.ensures at a))

pub returns-in-None : goal.returns-in-None
returns-in-None c =
    let zone : Zone = record { origin = c.args.zone.origin.now; sets = sets_of c.args.zone.sets.now } in
    let says : host_in c.args.q.now.rdata ≡ None = sym (rw c.in-None.is at c.in_ok-name.ensures) in
    by_none c.args.source zone c.args.answers.now c.args.q.now.rdata c.args.all.now.items says
