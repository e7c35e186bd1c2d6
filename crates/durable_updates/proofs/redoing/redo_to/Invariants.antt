-- The entries so far are done.
use Rattle.std.proofs.Common.{◌≡◌, ◌++◌, List, ℕ, length}
use Rattle.journal.specs.Read.{contents}
use Rattle.durable_updates.specs.Redone.{Redone}
use Rattle.durable_updates.proofs.redoing.redo_to.Given as goal

abbrev pub invariant-loop-rest : goal.invariant-loop-rest
invariant-loop-rest g l = (done : List (List ℕ)) × (contents l.fn.entries ≡ done ++ contents l.rest) × Redone done l.fn.zone.zone l.zone.zone × (l.zone ≡ record l.fn.zone { zone = l.zone.zone })

abbrev pub decreases-loop-rest : goal.decreases-loop-rest
decreases-loop-rest g l = length l.rest
