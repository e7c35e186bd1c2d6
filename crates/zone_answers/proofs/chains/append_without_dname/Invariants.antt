-- Copies of the records so far but DNAMEs stand behind what was there.
use Rattle.std.proofs.Common.{◌≡◌, ◌++◌, take}
use Rattle.zone_answers.specs.Chains.{without_dname}
use Rattle.zone_answers.proofs.chains.append_without_dname.Given as goal

abbrev pub invariant-loop-q : goal.invariant-loop-q
invariant-loop-q l = l.all.items ≡ l.fn.all.items ++ without_dname (take l.q-index l.records)
