-- The addresses of the hosts so far stand last.
use Rattle.std.proofs.Common.{take}
use Rattle.served_notices.specs.Hosts.{AddsServers}
use Rattle.served_notices.proofs.hosts.push_servers.Given as goal

abbrev pub invariant-loop-place : goal.invariant-loop-place
invariant-loop-place g l = AddsServers l.zones.zones l.primary (take l.place l.records) l.fn.targets.items l.targets.items
