use Rattle.std.proofs.Common.{sym, ◌∙◌}
use Rattle.std.specs.Prelude.{◌==◌}
use Rattle.hickory_store.specs.updates.Identity.{same_record}
use Rattle.hickory_store.proofs.lemmas.updates.NamedSets.{any_filter}
use Rattle.hickory_store.proofs.updates.required_sets.is_required.Goals as goal

pub returns : goal.returns
returns c = c.require_record.ensures ∙ sym (any_filter (λ r. r.dns_class == 1) (same_record c.args.q.now) c.args.prerequisites.now)
