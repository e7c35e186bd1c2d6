use Rattle.std.proofs.Common.{◌≡◌, Ok, inl, sym, ap, ◌∙◌}
use Rattle.hickory_base.specs.declared.zone_store.lookup.AuthLookup.TheVariants as lookup
use Rattle.hickory_base.specs.zone_store.ZoneSets.{sets_of}
use Rattle.zone_replies.proofs.lemmas.replies.Finished.{zone_is}
use Rattle.zone_replies.proofs.lemmas.replies.Handling.{other_found, soa_found}
use Rattle.zone_replies.specs.Replies.{denial_soa, as_zone}
use Rattle.zone_replies.proofs.handled.records.Goals as goal

pub returns-then-is_soa : goal.returns-then-is_soa
returns-then-is_soa c =
    let zone = as_zone c.args.zone.now in
    let same = zone_is c.args.zone.now c.origin-then-is_soa.result.now (sets_of c.records.result.now) c.origin-then-is_soa.ensures c.records.ensures.sets in
    let soa : c.in_ok-soa_of.field-0 ≡ denial_soa zone = c.in_ok-soa_of.ensures ∙ ap denial_soa same in
    inl (soa_found zone c.args.name.now c.args.record_type (Ok (lookup.Records c.in_ok-soa_of.field-0 c.empty.result)) (sym (c.is_soa.ensures zone (sym c.origin.ensures)) ∙ c.if-is_soa.true)
    (ap Ok (ap (λ rs. lookup.Records rs c.empty.result) soa ∙ ap (λ rs. lookup.Records (denial_soa zone) rs) c.empty.ensures)))

pub returns : goal.returns
returns c =
    let zone = as_zone c.args.zone.now in
    inl (other_found zone c.args.name.now c.args.record_type c.records_of.result (sym (c.is_soa.ensures zone (sym c.origin.ensures)) ∙ c.if-is_soa.false) c.in_ok-reply_to.field-0 c.in_ok-reply_to.ensures c.records_of.ensures)
