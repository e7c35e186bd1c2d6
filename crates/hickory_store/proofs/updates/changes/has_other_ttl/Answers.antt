-- It is found at the first record of its identity.
use Rattle.std.proofs.Common.{◌∙◌}
use Rattle.hickory_store.proofs.lemmas.updates.SameZones.{other_ttl_found}
use Rattle.hickory_store.proofs.updates.changes.has_other_ttl.Goals as goal

pub returns : goal.returns
returns c = c.finds_other_ttl.ensures ∙ other_ttl_found c.identities.ensures.records c.args.records.now c.args.r.now
