-- What is retained is what the test retains.
use Rattle.std.proofs.Common.{rules, tests, not}
use Rattle.std.proofs.lemmas.Fn.{filter_same}
use Rattle.hickory_store.specs.updates.Changes.{is_deleted_when}
use Rattle.hickory_store.proofs.updates.changes.take_out.Goals as goal

pub returns : goal.returns
returns c =
    filter_same _ (λ q. not (is_deleted_when c.args.origin.now c.args.r.now c.args.is_coming c.args.is_kept q)) _ (λ x b q k. search (rules, tests)) _ _ c.retain.ensures.filtered
