-- One entry more is done, and followed.
use Rattle.std.proofs.Common.{◌≡◌, ◌∙◌, ◌-◌, ◌++◌, ◌∷◌, [], ℕ, List, Vec, ap, append_assoc, drop, length, subst, sym, take}
use Rattle.std.specs.declared.alloc.Global.{Global}
use Rattle.hickory_base.specs.zone_store.ZoneAnswers.{MemoryZone}
use Rattle.hickory_store.specs.updates.UpdatableZone.{UpdatableZone}
use Rattle.journal.specs.Read.{contents}
use Rattle.durable_updates.specs.Redone.{RedoesOne, Redone}
use Rattle.durable_updates.proofs.Entries.{one_more}
use Rattle.durable_updates.proofs.Followed.{one_more_led}
use Rattle.durable_updates.proofs.Judging.{front_of}
use Rattle.durable_updates.proofs.following.redo_followed.Goals as goal

pub loop-rest-preserved : goal.loop-rest-preserved
loop-rest-preserved g c =
    let rest : List (Vec ℕ Global) = c.loop-rest.rest.now in
    let first : Vec ℕ Global = c.entry-item.result in
    let others : List (Vec ℕ Global) = take (length rest - 1) (drop 1 rest) in
    let split : rest ≡ first ∷ others = front_of rest first c.in-len1-up.len_at_least c.entry-item.is in
    let base : MemoryZone = c.args.zone.now.zone in
    let was = c.loop-rest.invariant in
    let done : RedoesOne first.items c.loop-rest.zone.zone c.redo_one_followed.new.zone.zone =
    subst (λ (e : List ℕ). RedoesOne e c.loop-rest.zone.zone c.redo_one_followed.new.zone.zone) c.deref.ensures.value c.in_ok-redo_one_followed.ensures.redoes in (
      was.0 ++ first.items ∷ [],
      was.1 ∙ ap (λ (es : List (Vec ℕ Global)). was.0 ++ contents es) split ∙ sym (append_assoc was.0 (first.items ∷ []) (contents others)),
      one_more was.0 first.items base c.loop-rest.zone.zone c.redo_one_followed.new.zone.zone was.2 done,
      one_more_led c.recorded_lead.ensures (λ (front : List (List ℕ)) (version : MemoryZone). Redone front base version) (contents c.args.entries.now) was.0 (contents rest) c.loop-rest.zone.zone c.redo_one_followed.new.zone.zone
          c.loop-rest.history c.redo_one_followed.new.history was.1 was.2 c.in_ok-redo_one_followed.ensures.history was.3,
      c.redo_one_followed.ensures.others ∙ ap (λ (z : UpdatableZone g.row.V.Denot). record z { zone = c.redo_one_followed.new.zone.zone }) was.4,
    )
