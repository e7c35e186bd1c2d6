use Rattle.std.proofs.Common.{rules}
use Rattle.served_notices.specs.Hosts.AddsServers.{none}
use Rattle.served_notices.proofs.Turns.{server_more}
use Rattle.served_notices.proofs.hosts.push_servers.Goals as goal

pub loop-place-init : goal.loop-place-init
loop-place-init g c = none

pub loop-place-preserved : goal.loop-place-preserved
loop-place-preserved g c =
    server_more c.args.zones.now.zones c.args.primary.now c.args.records.now c.loop-place.place c.index-records-place.result c.args.targets.now.items
    c.loop-place.targets.items c.push_server.new.targets.items (search rules) c.index-records-place.is c.loop-place.invariant c.in_ok-push_server.ensures
