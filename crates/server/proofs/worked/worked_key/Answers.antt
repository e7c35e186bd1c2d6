use Rattle.std.proofs.Common.{[], ◌∷◌, codes, false, refl, true}
use Rattle.server.proofs.WorkedRuns.{named_k}
use Rattle.server.proofs.worked.worked_key.Goals as goal

pub returns-clause-without : goal.returns-clause-without
returns-clause-without c = (record { labels = codes "k" ∷ []; is_fqdn = false }, named_k false (codes "k") refl, refl)

pub returns-clause-with_dot : goal.returns-clause-with_dot
returns-clause-with_dot c = (record { labels = codes "k" ∷ []; is_fqdn = true }, named_k true (codes "k.") refl, refl)
