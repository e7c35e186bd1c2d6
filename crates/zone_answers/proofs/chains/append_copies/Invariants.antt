-- Copies of the records so far stand behind what was there.
use Rattle.std.proofs.Common.{◌≡◌, ◌++◌, take}
use Rattle.zone_answers.proofs.chains.append_copies.Given as goal

abbrev pub invariant-loop-q : goal.invariant-loop-q
invariant-loop-q l = l.all.items ≡ l.fn.all.items ++ take l.q-index l.records
