-- The set has one record more, or had the same.
use Rattle.std.proofs.Common.{◌≡◌, cond, not, subst, true}
use Rattle.std.specs.HashSet.{contains}
use Rattle.wire_messages.specs.declared.rr.rdata.RData.{RData}
use Rattle.wire_messages.specs.declared.rr.record.Record.{Record}
use Rattle.hickory_store.specs.file.FirstRecords.{same_digested}
use Rattle.hickory_store.specs.declared.file.digests.Digested.{Digested}
use Rattle.hickory_store.proofs.lemmas.file.FirstRecords.{met_more}
use Rattle.hickory_store.proofs.file.first_records.is_first.Goals as goal

pub returns : goal.returns
returns c kept knows =
    let old = c.args.met.now in
    let new = c.insert.new.self in
    let told = subst (λ (k : Digested (Record RData)). c.in_ok-insert.field-0 ≡ not (contains same_digested old k)) c.in_ok-key.ensures c.in_ok-insert.ensures.added in
    let now = subst (λ (k : Digested (Record RData)). (x : Digested (Record RData)) → contains same_digested new x ≡ cond (same_digested k x) true (contains same_digested old x)) c.in_ok-key.ensures
    c.in_ok-insert.ensures.updates.0 in
    met_more c.name_comparisons.ensures.hashed c.name_comparisons.ensures.case c.identities.ensures.records kept old new c.args.q.now c.in_ok-insert.field-0 knows told now
