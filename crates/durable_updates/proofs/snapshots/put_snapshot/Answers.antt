-- The snapshot is put in the place of the records.
use Rattle.std.proofs.Common.{◌≡◌, ◌∙◌, ◌-◌, ◌∷◌, inr, ℕ, List, Vec, ap, arith, drop, length, take}
use Rattle.std.specs.declared.alloc.Global.{Global}
use Rattle.hickory_store.specs.updates.UpdatableZone.{UpdatableZone}
use Rattle.journal.specs.Read.{contents}
use Rattle.durable_updates.proofs.Judging.{front_of}
use Rattle.durable_updates.proofs.snapshots.put_snapshot.Goals as goal

pub returns-clause-base : goal.returns-clause-base
returns-clause-base g c =
    let all : List (Vec ℕ Global) = c.args.entries.now in
    let head : Vec ℕ Global = c.head-item.result in
    let others : List (Vec ℕ Global) = take (length all - 1) (drop 1 all) in
    let split : all ≡ head ∷ others = front_of all head c.in-len1-up.len_at_least c.head-item.is in
    let found = c.in_ok-records.ensures in
    inr (record {
      head = head.items;
      snapshot = found.0;
      split = ap (λ (es : List (Vec ℕ Global)). contents es) split ∙ ap (λ (l : List (List ℕ)). head.items ∷ l) found.1;
      is_head = grind arith;
      is_snapshot = (c.in_ok-records.field-0.records.items, found.2, c.in_ok-put_records.ensures.records, c.in_ok-put_records.ensures.soa);
      others = ap (λ (z : UpdatableZone g.row.V.Denot). z.zone) c.put_records.ensures.others;
    })
