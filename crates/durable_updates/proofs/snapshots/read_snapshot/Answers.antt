-- One record more is read.
use Rattle.std.proofs.Common.{◌≡◌, ◌∙◌, ◌-◌, ◌++◌, ◌∷◌, [], ℕ, List, Vec, ap, append_assoc, drop, length, subst, sym, take}
use Rattle.std.specs.declared.alloc.Global.{Global}
use Rattle.wire_messages.specs.declared.rr.rdata.RData.{RData}
use Rattle.wire_messages.specs.declared.rr.record.Record.{Record}
use Rattle.journal.specs.Read.{contents}
use Rattle.durable_updates.specs.Snapshots.{IsAnswer, Say}
use Rattle.durable_updates.proofs.Judging.{front_of}
use Rattle.durable_updates.proofs.Recalled.{say_more, says_itself}
use Rattle.durable_updates.proofs.snapshots.read_snapshot.Goals as goal

pub loop-rest-preserved : goal.loop-rest-preserved
loop-rest-preserved c =
    let rest : List (Vec ℕ Global) = c.loop-rest.rest.now in
    let first : Vec ℕ Global = c.entry-item.result in
    let others : List (Vec ℕ Global) = take (length rest - 1) (drop 1 rest) in
    let split : rest ≡ first ∷ others = front_of rest first c.in-len1-up.len_at_least c.entry-item.is in
    let was = c.loop-rest.invariant in
    let r : Record RData = c.in_ok-read_record.field-0 in
    let answer : IsAnswer first.items r = subst (λ (e : List ℕ). IsAnswer e r) c.deref.ensures.value c.in_ok-read_record.ensures in (
      was.0 ++ first.items ∷ [],
      was.1 ∙ ap (λ (es : List (Vec ℕ Global)). was.0 ++ contents es) split ∙ sym (append_assoc was.0 (first.items ∷ []) (contents others)),
      subst (λ (rs : List (Record RData)). Say (was.0 ++ first.items ∷ []) rs) (sym c.in_ok-push.ensures.items)
          (say_more was.0 (first.items ∷ []) c.loop-rest.records.items (r ∷ []) was.2 (says_itself c.identities.ensures.records first.items r answer, tt)),
    )
