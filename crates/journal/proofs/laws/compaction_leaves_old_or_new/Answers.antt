-- The higher generation is that of the file which has all.
use Rattle.journal.proofs.Pairs.{first_done, first_is, second_done, second_is}
use Rattle.journal.proofs.laws.compaction_leaves_old_or_new.Goals as goal

pub returns-clause-second : goal.returns-clause-second
returns-clause-second c = λ now old new generation file spare. second_is now new generation file spare old

pub returns-clause-second_done : goal.returns-clause-second_done
returns-clause-second_done c = second_done

pub returns-clause-first : goal.returns-clause-first
returns-clause-first c = λ now old new generation file spare. first_is now new generation file spare old

pub returns-clause-first_done : goal.returns-clause-first_done
returns-clause-first_done c = first_done
