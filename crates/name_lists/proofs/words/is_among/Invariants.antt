use Rattle.std.proofs.Common.{◌≡◌, length}
use Rattle.name_lists.specs.Gives.{is_among}
use Rattle.name_lists.specs.Words.{words}
use Rattle.name_lists.proofs.words.is_among.Given as goal

abbrev pub invariant-loop-entry : goal.invariant-loop-entry
invariant-loop-entry l = is_among l.word (words l.fn.entries) ≡ is_among l.word (words l.rest)

abbrev pub decreases-loop-entry : goal.decreases-loop-entry
decreases-loop-entry l = length l.rest
