-- One record more has the TTL.
use Rattle.std.proofs.Common.{◌∙◌, ap, arith, cond, set, sym}
use Rattle.std.proofs.lemmas.List.Edits.{map_over_more}
use Rattle.wire_messages.specs.declared.rr.rdata.RData.{RData}
use Rattle.wire_messages.specs.declared.rr.record.Record.{Record}
use Rattle.hickory_store.specs.updates.Changes.{in_rrset}
use Rattle.hickory_store.proofs.updates.changes.give_one_ttl.Goals as goal

pub loop-q-preserved : goal.loop-q-preserved
loop-q-preserved c =
    let given = λ (q : Record RData). cond (in_rrset c.args.r.now q) (record q { ttl = c.args.r.now.ttl }) q in
    ap (set c.loop-q.records c.loop-q.q-index) (c.give_ttl.ensures ∙ ap given (sym c.q-item.is))
    ∙ map_over_more given c.args.records.now c.loop-q.records c.loop-q.q-index c.q-item.result (omega arith) c.loop-q.invariant c.q-item.is
