-- Requests that are answered one after another.
use Rattle.std.proofs.Common.{subst, refl, ℕ, Bool, List, [], ◌∷◌, ◌++◌}
use Rattle.hickory_base.specs.requests.Requests.{ReceivedRequest}
use Rattle.hickory_store.specs.updates.UpdatableZone.{UpdatableZone}
use Rattle.hickory_store.specs.updates.UpdateAnswers.{UpdatesAll, UpdatesOne}
use Rattle.hickory_store.specs.declared.updates.verifier.Verifier.{Ghosts}

-- one request more
pub updates_more : {V : Type 0} (f : Bool) (by : Ghosts V) (requests : List (ReceivedRequest × ℕ)) (request : ReceivedRequest × ℕ) (old between new : UpdatableZone V)
    → UpdatesAll f by requests old between → UpdatesOne f by request between new → UpdatesAll f by (requests ++ request ∷ []) old new
updates_more f by [] request old between new all one = (new, subst (λ zone. UpdatesOne f by request zone new) all one, refl)
updates_more f by (r ∷ requests) request old between new all one = (all.0, all.1, updates_more f by requests request all.0 between new all.2 one)
