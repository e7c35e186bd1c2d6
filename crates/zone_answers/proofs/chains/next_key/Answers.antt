use Rattle.std.proofs.Common.{inl}
use Rattle.zone_answers.proofs.chains.next_key.Goals as goal

pub returns-in_default : goal.returns-in_default
returns-in_default c sets = let out = rw c.in_default.is at c.in_ok-next.ensures in inl (out sets)
