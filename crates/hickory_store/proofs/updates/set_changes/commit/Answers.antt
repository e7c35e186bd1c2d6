use Rattle.std.proofs.Common.{◌∙◌, ap}
use Rattle.hickory_store.specs.representation.SetChanges.{is_put}
use Rattle.hickory_store.proofs.lemmas.updates.SetChanges.{put_agree, take_alike}
use Rattle.hickory_store.proofs.updates.set_changes.commit.Goals as goal

pub returns-clause-done : goal.returns-clause-done
returns-clause-done c = λ q.
    c.remove_all.ensures q
    ∙ take_alike c.args.gone.now _ _
    (λ x. c.replace_all.ensures x
    ∙ put_agree c.args.puts.items _ _ x (λ e. c.in_ok-make_room.ensures.others x (ap (λ ps. is_put ps x) c.deref.ensures.value ∙ e)))
    q
