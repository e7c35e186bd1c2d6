use Rattle.std.proofs.Common.{◌∙◌, ap, sym}
use Rattle.hickory_store.specs.representation.SetChanges.{undone}
use Rattle.hickory_store.proofs.lemmas.updates.SetChanges.{undone_push}
use Rattle.hickory_store.proofs.updates.set_changes.undo.Goals as goal

pub loop-key-preserved-in-Some : goal.loop-key-preserved-in-Some
loop-key-preserved-in-Some c =
    ap (undone c.pop.new.self.items) c.remove.ensures.entries
    ∙ sym (undone_push c.pop.new.self.items c.in-Some.key c.loop-key.sets.entries)
    ∙ sym (ap (λ log. undone log c.loop-key.sets.entries) c.in-Some.ensures.items)
    ∙ c.loop-key.invariant

pub loop-key-preserved : goal.loop-key-preserved
loop-key-preserved c =
    ap (undone c.pop.new.self.items) c.remove.ensures.entries
    ∙ sym (undone_push c.pop.new.self.items c.in-Some.key c.loop-key.sets.entries)
    ∙ sym (ap (λ log. undone log c.loop-key.sets.entries) c.in-Some.ensures.items)
    ∙ c.loop-key.invariant
