-- The set under the key of the SOA is that one record.
use Rattle.std.proofs.Common.{◌≡◌, ◌∙◌, ◌∷◌, [], ap, rules, sym}
use Rattle.std.specs.Option.{option_copied}
use Rattle.hickory_base.specs.zone_store.ZoneRecords.{rrset}
use Rattle.hickory_base.specs.zone_store.ZoneSets.{zone_records}
use Rattle.hickory_store.proofs.lemmas.updates.ApexNs.{Records, Resource}
use Rattle.hickory_store.proofs.lemmas.updates.NamedSets.{existing_some}
use Rattle.zone_differences.proofs.Naming.{only_one}
use Rattle.zone_differences.proofs.names.apex_soa.Goals as goal

pub returns-in-Some-len1 : goal.returns-in-Some-len1
returns-in-Some-len1 c =
    let zone : Records = zone_records c.args.zone.now.sets in
    let xs : Records = c.in-Some-len1.field-0.now in
    let named : c.new-key.result.name ≡ c.args.zone.now.origin = search rules in
    let typed : c.new-key.result.record_type ≡ 6 = search rules in
    let same : c.soa-item.result ≡ c.in_ok-clone-in-Some-len1.field-0 = search rules in
    sym (λ i. rrset zone (named i) (typed i))
    ∙ existing_some (rrset zone c.new-key.result.name c.new-key.result.record_type) xs (sym c.record_set.ensures ∙ ap option_copied c.in-Some-len1.is)
    ∙ only_one xs c.soa-item.result c.in-Some-len1.len_at_least c.in-Some-len1.len_below c.soa-item.is
    ∙ ap (λ (r : Resource). r ∷ []) same
