-- The apex has an SOA, whose serial is incremented, and every other name stays.
use Rattle.std.proofs.Common.{◌≡◌, ◌∙◌, ap, sym, subst, arith, ◌++◌, take, drop, length, map, Some, None}
use Rattle.std.proofs.Math.Seq.{take-append_seam}
use Rattle.std.proofs.lemmas.List.{length-map}
use Rattle.std.specs.List.{list_any}
use Rattle.wire_names.specs.rr.domain.DomainName.{DomainName}
use Rattle.hickory_base.specs.zone_store.ZoneSets.{zone_records}
use Rattle.hickory_store.specs.updates.NameUpdates.{PutsName, records_now}
use Rattle.hickory_store.specs.updates.UpdateAnswers.{incremented, is_apex_soa}
use Rattle.hickory_store.proofs.lemmas.updates.ApexNs.{Records}
use Rattle.hickory_store.proofs.lemmas.updates.TouchedNames.{apex_soa_is, incremented_now, serial_refused}
use Rattle.hickory_store.proofs.updates.updating.increment_apex.Goals as goal

pub returns-clause-zone : goal.returns-clause-zone
returns-clause-zone c records now =
    let zone = zone_records c.args.zone.now.sets in
    let origin = c.args.zone.now.origin in
    let old = c.args.touched.now in
    let mid = c.take_name.new.touched in
    let new = c.put_name.new.touched in
    let took = c.in_ok-records.records.items in
    let made = c.increment_serials.new.records in
    let put : Records = take c.in_ok-records.records.len (made ++ drop (length made) took) in
    let all : made ≡ map (incremented origin) took =
    c.in_ok-increment_serials.ensures
    ∙ ap (map (incremented c.as_name-origin.result.now)) c.deref_mut.ensures.value
    ∙ ap (λ (o : DomainName). map (incremented o) took) (c.as_name-origin.ensures.name ∙ c.origin-apex.ensures) in
    let all_of : c.in_ok-records.records.len ≡ length made = omega (arith, c.in_ok-records.records.ok.0, ap length all, length-map took (incremented origin)) in
    incremented_now origin zone old mid new records took put
    (subst (λ (n : DomainName). PutsName n None old mid) c.origin-apex.ensures c.take_name.ensures.others)
    (c.in_ok-records.ensures.records ∙ ap (λ (n : DomainName). records_now zone old n) c.origin-apex.ensures) now
    (subst (λ (n : DomainName). PutsName n (Some put) mid new) (c.in_ok-name.ensures.cases ∙ c.origin-apex.ensures) c.in_ok-put_name.ensures)
    (ap (λ n. take n (made ++ drop (length made) took)) all_of ∙ take-append_seam made (drop (length made) took) ∙ all)

pub returns-clause-found : goal.returns-clause-found
returns-clause-found c records now =
    let zone = zone_records c.args.zone.now.sets in
    let origin = c.args.zone.now.origin in
    let old = c.args.touched.now in
    let mid = c.take_name.new.touched in
    let took = c.in_ok-records.records.items in
    sym (apex_soa_is origin zone old mid c.put_name.new.touched records took took
    (subst (λ (n : DomainName). PutsName n None old mid) c.origin-apex.ensures c.take_name.ensures.others)
    (c.in_ok-records.ensures.records ∙ ap (λ (n : DomainName). records_now zone old n) c.origin-apex.ensures) now)
    ∙ sym (c.has_apex_soa.ensures
    ∙ ap (list_any (is_apex_soa c.as_name-origin.result.now)) c.deref.ensures.value
    ∙ ap (λ (o : DomainName). list_any (is_apex_soa o) took) (c.as_name-origin.ensures.name ∙ c.origin-apex.ensures)) ∙ c.if-not-has_apex_soa.false

pub returns-then-not-has_apex_soa-clause-refused : goal.returns-then-not-has_apex_soa-clause-refused
returns-then-not-has_apex_soa-clause-refused c records now =
    let zone = zone_records c.args.zone.now.sets in
    let origin = c.args.zone.now.origin in
    let old = c.args.touched.now in
    let mid = c.take_name.new.touched in
    let took = c.in_ok-records.records.items in
    serial_refused origin records
    (sym (apex_soa_is origin zone old mid mid records took took
    (subst (λ (n : DomainName). PutsName n None old mid) c.origin-apex.ensures c.take_name.ensures.others)
    (c.in_ok-records.ensures.records ∙ ap (λ (n : DomainName). records_now zone old n) c.origin-apex.ensures) now)
    ∙ sym (c.has_apex_soa.ensures
    ∙ ap (list_any (is_apex_soa c.as_name-origin.result.now)) c.deref.ensures.value
    ∙ ap (λ (o : DomainName). list_any (is_apex_soa o) took) (c.as_name-origin.ensures.name ∙ c.origin-apex.ensures)) ∙ c.if-not-has_apex_soa.true)
