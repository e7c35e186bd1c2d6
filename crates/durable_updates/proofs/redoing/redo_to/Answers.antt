-- One entry more is done.
use Rattle.std.proofs.Common.{◌≡◌, ◌∙◌, ◌-◌, ◌++◌, ◌∷◌, [], ℕ, List, Vec, ap, append_assoc, drop, length, subst, sym, take}
use Rattle.std.specs.declared.alloc.Global.{Global}
use Rattle.hickory_store.specs.updates.UpdatableZone.{UpdatableZone}
use Rattle.journal.specs.Read.{contents}
use Rattle.durable_updates.specs.Redone.{RedoesOne}
use Rattle.durable_updates.proofs.Entries.{one_more}
use Rattle.durable_updates.proofs.Judging.{front_of}
use Rattle.durable_updates.proofs.redoing.redo_to.Goals as goal

pub loop-rest-preserved : goal.loop-rest-preserved
loop-rest-preserved g c =
    let rest : List (Vec ℕ Global) = c.loop-rest.rest.now in
    let first : Vec ℕ Global = c.entry-item.result in
    let others : List (Vec ℕ Global) = take (length rest - 1) (drop 1 rest) in
    let split : rest ≡ first ∷ others = front_of rest first c.in-len1-up.len_at_least c.entry-item.is in
    let was = c.loop-rest.invariant in
    let done : RedoesOne first.items c.loop-rest.zone.zone c.redo_one.new.zone.zone = subst (λ (e : List ℕ). RedoesOne e c.loop-rest.zone.zone c.redo_one.new.zone.zone) c.deref.ensures.value c.in_ok-redo_one.ensures.redoes in (
      was.0 ++ first.items ∷ [],
      was.1 ∙ ap (λ (es : List (Vec ℕ Global)). was.0 ++ contents es) split ∙ sym (append_assoc was.0 (first.items ∷ []) (contents others)),
      one_more was.0 first.items c.args.zone.now.zone c.loop-rest.zone.zone c.redo_one.new.zone.zone was.2 done,
      c.redo_one.ensures.others ∙ ap (λ (z : UpdatableZone g.row.V.Denot). record z { zone = c.redo_one.new.zone.zone }) was.3,
    )
