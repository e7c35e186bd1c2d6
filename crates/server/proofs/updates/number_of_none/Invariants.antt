-- The rules so far are of zones that were added.
use Rattle.std.proofs.Common.{◌≤◌, not}
use Rattle.std.specs.List.{position_or_len}
use Rattle.server.specs.Updates.{is_added}
use Rattle.server.proofs.updates.number_of_none.Given as goal

abbrev pub invariant-loop-place : goal.invariant-loop-place
invariant-loop-place l = l.place ≤ position_or_len (λ grant. not (is_added l.apexes grant.apex)) l.grants
