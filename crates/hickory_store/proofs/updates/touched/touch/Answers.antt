-- The name of the record takes its turn, and every other name stays.
use Rattle.std.proofs.Common.{◌∙◌, ap, subst, Some, None}
use Rattle.wire_names.specs.rr.domain.DomainName.{DomainName}
use Rattle.hickory_base.specs.zone_store.ZoneSets.{zone_records}
use Rattle.hickory_store.specs.updates.Changes.{changes, after_record}
use Rattle.hickory_store.specs.updates.NameUpdates.{PutsName, records_now}
use Rattle.hickory_store.proofs.lemmas.updates.TouchedNames.{told, turned}
use Rattle.hickory_store.proofs.updates.touched.touch.Goals as goal

pub returns-clause-zone : goal.returns-clause-zone
returns-clause-zone c records now =
    let zone = zone_records c.args.zone.now.sets in
    let old = c.args.touched.now in
    let mid = c.take_name.new.touched in
    let new = c.put_name.new.touched in
    let took = c.in_ok-records.records.items in
    let put = c.take_turn.new.records.items in
    let origin = c.as_name-origin.ensures.name ∙ c.origin.ensures in
    turned c.args.by_rfc c.args.zone.now.origin zone c.args.r.now old mid new records took put
    (subst (λ (n : DomainName). PutsName n None old mid) c.in_ok-name.ensures c.take_name.ensures.others)
    (subst (λ (n : DomainName). PutsName n (Some put) mid new) c.in_ok-name.ensures c.in_ok-put_name.ensures)
    (c.in_ok-records.ensures.records ∙ ap (λ (n : DomainName). records_now zone old n) c.in_ok-name.ensures) now
    (c.in_ok-is_changed.ensures.zone ∙ ap (λ o. after_record c.args.by_rfc o took c.args.r.now) origin)

pub returns-clause-changed : goal.returns-clause-changed
returns-clause-changed c records now =
    let zone = zone_records c.args.zone.now.sets in
    let old = c.args.touched.now in
    let mid = c.take_name.new.touched in
    let new = c.put_name.new.touched in
    let took = c.in_ok-records.records.items in
    let put = c.take_turn.new.records.items in
    let origin = c.as_name-origin.ensures.name ∙ c.origin.ensures in
    told c.args.by_rfc c.args.zone.now.origin zone c.args.r.now old mid new records took put
    (subst (λ (n : DomainName). PutsName n None old mid) c.in_ok-name.ensures c.take_name.ensures.others)
    (subst (λ (n : DomainName). PutsName n (Some put) mid new) c.in_ok-name.ensures c.in_ok-put_name.ensures)
    (c.in_ok-records.ensures.records ∙ ap (λ (n : DomainName). records_now zone old n) c.in_ok-name.ensures) now
    c.in_ok-is_changed.is_changed (c.in_ok-is_changed.ensures.changed ∙ ap (λ o. changes c.args.by_rfc o took c.args.r.now) origin)
