use Rattle.std.proofs.Common.{◌≡◌, false, rules, refl}
use Rattle.hickory_base.specs.declared.zone_store.lookup.LookupControlFlow.TheVariants.{Skip}
use Rattle.hickory_catalog.proofs.lemmas.queries.QueryReplies.{if_ok_map}
use Rattle.hickory_catalog.proofs.authoritative.denial_records.Goals as goal

pub returns-then-not-options-clause-given : goal.returns-then-not-options-clause-given
returns-then-not-options-clause-given g c =
    let unasked : c.args.options.dnssec_ok ≡ false = search rules in
    (Skip, rw unasked refl, c.empty.ensures, refl)

pub returns-clause-given : goal.returns-clause-given
returns-clause-given g c =
    if_ok_map c.records_given-records.result _ _ c.records_given-records.ensures.given (λ records w. (c.nothing_denial-denial.result, c.nothing_denial-denial.ensures, w.0, w.1))
