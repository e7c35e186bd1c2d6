-- The chain that is kept for the apex is that of the zone.
use Rattle.std.proofs.Common.{◌≡◌, rules}
use Rattle.served_zones.proofs.RuledZones.{kept_takes, only_ruled}
use Rattle.served_zones.proofs.journals.open_journal.Goals as goal

pub returns-in-Some-clause-refused : goal.returns-in-Some-clause-refused
returns-in-Some-clause-refused g c = λ none.
    let same : c.open_in_chain.new.chain.items ≡ c.in-Some.chain.now.items =
    only_ruled g.D.Disk c.args.first c.args.second c.open_in_chain.result c.in-Some.chain.now.items c.open_in_chain.new.chain.items c.open_in_chain.ensures.opened c.open_in_chain.ensures.err
    (λ has. none (kept_takes c.args.zones.now.zones c.args.apex.now c.in-Some.chain.now.items c.in-Some.ensures.value has)) in
    search rules
