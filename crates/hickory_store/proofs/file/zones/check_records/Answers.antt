-- The front has one record more, in which nothing is wrong.
use Rattle.std.proofs.Common.{◌≡◌, ◌∙◌, ◌-◌, ◌++◌, ◌∷◌, [], List, ap, append_assoc, drop, length, sym, take}
use Rattle.wire_messages.specs.declared.rr.rdata.RData.{RData}
use Rattle.wire_messages.specs.declared.rr.record.Record.{Record}
use Rattle.hickory_store.proofs.lemmas.file.RecordZones.{front_of, more_right}
use Rattle.hickory_store.proofs.file.zones.check_records.Goals as goal

pub loop-rest-preserved : goal.loop-rest-preserved
loop-rest-preserved c =
    let front : List (Record RData) = c.loop-rest.invariant.0 in
    let first : Record RData = c.first-item.result in
    let rest : List (Record RData) = c.loop-rest.rest.now in
    let others : List (Record RData) = take (length rest - 1) (drop 1 rest) in
    let split : rest ≡ first ∷ others = front_of rest first c.in-len1-up.len_at_least c.first-item.is in (
      front ++ first ∷ [],
      c.loop-rest.invariant.1 ∙ ap (λ (xs : List (Record RData)). front ++ xs) split ∙ sym (append_assoc front (first ∷ []) others),
      more_right c.args.apex.now front first c.loop-rest.invariant.2 (rw c.in-None.is at c.record_fault.ensures),
    )
