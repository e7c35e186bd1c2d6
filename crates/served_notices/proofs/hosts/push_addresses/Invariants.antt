-- The addresses of the records so far stand last.
use Rattle.std.proofs.Common.{◌≡◌, ◌++◌, take}
use Rattle.served_notices.specs.Hosts.{addresses_in}
use Rattle.served_notices.proofs.hosts.push_addresses.Given as goal

abbrev pub invariant-loop-entry : goal.invariant-loop-entry
invariant-loop-entry l = l.targets.items ≡ l.fn.targets.items ++ addresses_in (take l.entry-index l.records)
