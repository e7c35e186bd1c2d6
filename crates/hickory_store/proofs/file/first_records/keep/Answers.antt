-- The record is kept where it is the first.
use Rattle.std.proofs.Common.{◌∙◌, List, subst, sym}
use Rattle.wire_messages.specs.declared.rr.rdata.RData.{RData}
use Rattle.wire_messages.specs.declared.rr.record.Record.{Record}
use Rattle.hickory_store.specs.file.FirstRecords.{Knows}
use Rattle.hickory_store.proofs.lemmas.file.FirstRecords.{kept_as_before, kept_more}
use Rattle.hickory_store.proofs.file.first_records.keep.Goals as goal

pub returns-in_ok-push : goal.returns-in_ok-push
returns-in_ok-push c knows =
    let kept = c.args.kept.now.items in
    let told = c.in_ok-is_first.ensures kept knows in
    let more = kept_more kept c.args.q c.in_ok-is_first.field-0 told.0 c.if-branch.true in
    let is = c.in_ok-push.ensures.items ∙ sym more in
    (is, subst (λ (rs : List (Record RData)). Knows rs c.is_first.new.met) (sym is) told.1)

pub returns-else-branch : goal.returns-else-branch
returns-else-branch c knows =
    let kept = c.args.kept.now.items in
    let told = c.in_ok-is_first.ensures kept knows in
    let same = kept_as_before kept c.args.q c.in_ok-is_first.field-0 told.0 c.if-branch.false in
    (sym same, subst (λ (rs : List (Record RData)). Knows rs c.is_first.new.met) same told.1)
