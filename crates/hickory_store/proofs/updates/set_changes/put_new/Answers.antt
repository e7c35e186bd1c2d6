use Rattle.std.proofs.Common.{◌∙◌, ap, sym}
use Rattle.std.specs.Map.{remove_entry}
use Rattle.hickory_store.specs.representation.SetChanges.{equals, undone}
use Rattle.hickory_store.proofs.lemmas.updates.SetChanges.{undone_push}
use Rattle.hickory_store.proofs.updates.set_changes.put_new.Goals as goal

pub returns-clause-undone : goal.returns-clause-undone
returns-clause-undone c =
    let es = c.put_absent.new.sets.entries in
    ap (λ log. undone log es) c.in_ok-push.ensures.items
    ∙ undone_push c.args.noted.now.items _ es
    ∙ ap (undone c.args.noted.now.items) (ap (λ k. remove_entry (equals k) es) (sym c.in_ok-key.ensures.cases) ∙ c.put_absent.ensures.undone)
