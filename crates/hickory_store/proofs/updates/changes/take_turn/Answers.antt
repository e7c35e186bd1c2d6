-- The TTL of the record counts as 0, or as it is.
use Rattle.std.proofs.Common.{◌≡◌, ◌&&◌, ◌^◌, nat_le, false, IfOk, OnOk, ap, subst}
use Rattle.wire_messages.specs.declared.rr.rdata.RData.{RData}
use Rattle.wire_messages.specs.declared.rr.record.Record.{Record}
use Rattle.hickory_store.proofs.lemmas.updates.UpdateTurns.{below_large, changes_of, counted_large, counted_small, not_by_rfc, turn_of}
use Rattle.hickory_store.proofs.updates.changes.take_turn.Goals as goal
use Rattle.hickory_store.proofs.updates.changes.take_turn.Goals.{else-by_rfc-via-then-by_rfc+else-r-ge2147483648, else-by_rfc-via-else-by_rfc}

pub returns-then-r-ge2147483648-clause-zone : goal.returns-then-r-ge2147483648-clause-zone
returns-then-r-ge2147483648-clause-zone c =
    let q : Record RData = record c.in_ok-counted.counted { ttl = 0 } in
    subst (λ z. OnOk c.take_counted.result (c.take_counted.new.records.items ≡ z))
    (turn_of c.args.by_rfc c.args.origin.now c.args.records.now.items c.args.r.now q
    (counted_large c.args.by_rfc c.args.r.now q c.if-by_rfc.true c.if-r-ge2147483648.true
    (ap (λ (x : Record RData). record x { ttl = 0 }) (c.in_ok-counted.ensures.cases (λ e. e)))))
    c.take_counted.ensures.zone

pub returns-then-r-ge2147483648-clause-changed : goal.returns-then-r-ge2147483648-clause-changed
returns-then-r-ge2147483648-clause-changed c =
    let q : Record RData = record c.in_ok-counted.counted { ttl = 0 } in
    subst (λ z. IfOk c.take_counted.result (λ changed. changed ≡ z))
    (changes_of c.args.by_rfc c.args.origin.now c.args.records.now.items c.args.r.now q
    (counted_large c.args.by_rfc c.args.r.now q c.if-by_rfc.true c.if-r-ge2147483648.true
    (ap (λ (x : Record RData). record x { ttl = 0 }) (c.in_ok-counted.ensures.cases (λ e. e)))))
    c.take_counted.ensures.changed

pub returns-clause-zone : goal.returns-clause-zone
returns-clause-zone c =
    let small : (c.args.by_rfc && nat_le (2 ^ 31) c.args.r.now.ttl) ≡ false =
    elim c.else-by_rfc.branch as (λ _. (c.args.by_rfc && nat_le (2 ^ 31) c.args.r.now.ttl) ≡ false) [
      | else-by_rfc-via-then-by_rfc+else-r-ge2147483648 w ↦ below_large c.args.by_rfc c.args.r.now.ttl w.if-r-ge2147483648.false
      | else-by_rfc-via-else-by_rfc w ↦ not_by_rfc c.args.by_rfc c.args.r.now.ttl w.if-by_rfc.false
    ] in
    subst (λ z. OnOk c.take_counted-2.result (c.take_counted-2.new.records.items ≡ z))
    (turn_of c.args.by_rfc c.args.origin.now c.args.records.now.items c.args.r.now c.args.r.now (counted_small c.args.by_rfc c.args.r.now small))
    c.take_counted-2.ensures.zone

pub returns-clause-changed : goal.returns-clause-changed
returns-clause-changed c =
    let small : (c.args.by_rfc && nat_le (2 ^ 31) c.args.r.now.ttl) ≡ false =
    elim c.else-by_rfc.branch as (λ _. (c.args.by_rfc && nat_le (2 ^ 31) c.args.r.now.ttl) ≡ false) [
      | else-by_rfc-via-then-by_rfc+else-r-ge2147483648 w ↦ below_large c.args.by_rfc c.args.r.now.ttl w.if-r-ge2147483648.false
      | else-by_rfc-via-else-by_rfc w ↦ not_by_rfc c.args.by_rfc c.args.r.now.ttl w.if-by_rfc.false
    ] in
    subst (λ z. IfOk c.take_counted-2.result (λ changed. changed ≡ z))
    (changes_of c.args.by_rfc c.args.origin.now c.args.records.now.items c.args.r.now c.args.r.now (counted_small c.args.by_rfc c.args.r.now small))
    c.take_counted-2.ensures.changed
