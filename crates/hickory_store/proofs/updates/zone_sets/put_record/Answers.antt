-- The record stands last among those of its name and type.
use Rattle.std.proofs.Common.{◌≡◌, ◌∙◌, ◌∷◌, [], ◌++◌, List, None, Some, sym, ap, subst}
use Rattle.wire_messages.specs.rr.RecordData.{type_of}
use Rattle.wire_messages.specs.declared.rr.rdata.RData.{RData}
use Rattle.wire_messages.specs.declared.rr.record.Record.{Record}
use Rattle.hickory_base.specs.zone_store.RecordSets.{IsRecordSet}
use Rattle.hickory_base.specs.zone_store.ZoneRecords.{rrset}
use Rattle.hickory_base.specs.zone_store.ZoneSets.{sets_of}
use Rattle.wire_messages.specs.declared.rr.rr_key.RrKey.{RrKey}
use Rattle.hickory_store.specs.representation.ZoneSets.{PutsSet, records_under}
use Rattle.hickory_store.proofs.lemmas.file.SetsOfRecords.{holds_more, key_for, record_set_last, under_is}
use Rattle.hickory_store.proofs.updates.zone_sets.put_record.Goals as goal

pub new-set-requires : goal.new-set-requires
new-set-requires c =
    let q = c.args.q in
    let old = sets_of c.args.sets.now in
    let is : c.push.new.self.items ≡ rrset c.requires.0 q.name (type_of q.rdata) ++ q ∷ [] =
    c.in_ok-push.ensures.items
    ∙ ap (λ (xs : List (Record RData)). xs ++ q ∷ [])
    (c.in_ok-records.ensures.records ∙ ap (λ (k : RrKey). records_under k old) c.in_ok-key.ensures ∙ under_is q c.requires.0 old c.requires.1) in
    subst IsRecordSet (sym is) (record_set_last q c.requires.0)

pub returns : goal.returns
returns c records holds =
    let q = c.args.q in
    let old = sets_of c.args.sets.now in
    let taken = sets_of c.take_set.new.sets in
    let new = sets_of c.put_set.new.sets in
    let is : c.in_ok-shared.shared.value ≡ rrset records q.name (type_of q.rdata) ++ q ∷ [] =
    c.in_ok-shared.ensures.ok ∙ c.new-set.ensures ∙ c.in_ok-push.ensures.items
    ∙ ap (λ (xs : List (Record RData)). xs ++ q ∷ [])
    (c.in_ok-records.ensures.records ∙ ap (λ (k : RrKey). records_under k old) c.in_ok-key.ensures ∙ under_is q records old holds) in
    holds_more q records old taken new holds
    (subst (λ (k : RrKey). PutsSet k None old taken) c.in_ok-key.ensures c.in_ok-records.ensures.others)
    (subst (λ (xs : List (Record RData)). PutsSet (key_for q) (Some xs) taken new) is (subst (λ (k : RrKey). PutsSet k (Some c.in_ok-shared.shared.value) taken new) c.in_ok-key.ensures c.in_ok-put_set.ensures))
