-- What follows from what is so of an `Ok`.
use Rattle.std.proofs.Common.{Result, Ok, Err}
use Rattle.std.specs.Prelude.{IfOk}

-- what follows from what is so of an `Ok`
pub if_ok_map : {T E : Type 0} (r : Result T E) (P Q : T → Type 0) → IfOk r P → ((t : T) → P t → Q t) → IfOk r Q
if_ok_map (Ok t) P Q h f = f t h
if_ok_map (Err e) P Q h f = h
