use Rattle.std.proofs.Common.{◌∙◌, ap}
use Rattle.std.specs.Map.{remove_entry}
use Rattle.hickory_store.specs.representation.SetChanges.{equals}
use Rattle.wire_messages.specs.rr.RrKeys.{key_cmp}
use Rattle.hickory_store.proofs.lemmas.updates.SetChanges.{is_itself, keeps_step, remove_absent, remove_inserted}
use Rattle.hickory_store.proofs.updates.set_changes.put_absent.Goals as goal

pub returns-in-Ok-clause-undone : goal.returns-in-Ok-clause-undone
returns-in-Ok-clause-undone c =
    ap (remove_entry (equals c.args.key)) c.in-Ok.ensures.entries
    ∙ remove_inserted key_cmp c.args.key c.args.set c.args.sets.now.entries (is_itself c.args.key) c.requires

pub returns-in-Ok-clause-keeps : goal.returns-in-Ok-clause-keeps
returns-in-Ok-clause-keeps c = λ q. keeps_step (equals c.args.key q) c.args.set _ _ (c.in-Ok.ensures.updates.0 q)

pub returns-clause-undone : goal.returns-clause-undone
returns-clause-undone c =
    ap (remove_entry (equals c.args.key)) c.in-Err.ensures.err ∙ remove_absent (equals c.args.key) c.args.sets.now.entries c.requires
