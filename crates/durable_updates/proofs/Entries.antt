-- Entries that are done one after another.
use Rattle.std.proofs.Common.{ℕ, List, [], ◌∷◌, ◌++◌, subst}
use Rattle.hickory_base.specs.zone_store.ZoneAnswers.{MemoryZone}
use Rattle.durable_updates.specs.Redone.{Redone, RedoesOne}

pub one_more : (entries : List (List ℕ)) (entry : List ℕ) (old between new : MemoryZone) → Redone entries old between → RedoesOne entry between new → Redone (entries ++ entry ∷ []) old new
one_more [] entry old between new is done = (new, subst (λ z. RedoesOne entry z new) is done, λ i. new)
one_more (e ∷ entries) entry old between new run done = (run.0, run.1, one_more entries entry run.0 between new run.2 done)

pub more : (entries others : List (List ℕ)) (old between new : MemoryZone) → Redone entries old between → Redone others between new → Redone (entries ++ others) old new
more [] others old between new is done = subst (λ z. Redone others z new) is done
more (e ∷ entries) others old between new run done = (run.0, run.1, more entries others run.0 between new run.2 done)

pub nothing_done : (zone : MemoryZone) → Redone [] zone zone
nothing_done zone = λ i. zone
