-- Copies of the records so far stand behind what was there.
use Rattle.std.proofs.Common.{◌≡◌, ◌++◌, take}
use Rattle.zone_answers.specs.Chains.{owned_by}
use Rattle.zone_answers.proofs.chains.append_owned.Given as goal

abbrev pub invariant-loop-q : goal.invariant-loop-q
invariant-loop-q l = l.all.items ≡ l.fn.all.items ++ owned_by l.owner (take l.q-index l.records)
