-- What is retained is what the test retains.
use Rattle.std.proofs.Common.{rules, tests, not}
use Rattle.std.proofs.lemmas.Fn.{filter_same}
use Rattle.hickory_store.specs.representation.SetChanges.{has_key}
use Rattle.hickory_store.proofs.updates.changed_sets.without_set.Goals as goal

pub returns : goal.returns
returns c = filter_same _ (λ key. not (has_key c.args.sets.now key)) _ (λ x b q k. search (rules, tests)) _ _ c.retain.ensures.filtered
