-- By the name that is asked for, the version of the client, and the differences since then.
use Rattle.std.proofs.Common.{◌≡◌, ◌∙◌, refl, rules, subst, sym, true, false}
use Rattle.hickory_base.specs.requests.Questions.{one_query}
use Rattle.hickory_base.specs.zone_store.ZoneAnswers.{MemoryZone}
use Rattle.zone_replies.specs.Handled.{is_by_soa, names_zone}
use Rattle.zone_replies.specs.Replies.{as_zone}
use Rattle.zones.proofs.GivenTransfers.{by_differences, by_soa, not_named, whole}
use Rattle.zones.proofs.transfers.transfer.Goals as goal

pub returns-then-not-names_zone : goal.returns-then-not-names_zone
returns-then-not-names_zone g c =
    let zone = c.args.zone.now.zone in
    let query = c.in-Ok.info.query.now in
    let origin : zone.origin ≡ c.origin.result.now = search rules in
    let test : c.names_zone.result ≡ names_zone (as_zone zone) query = c.names_zone.ensures (as_zone zone) origin in
    let other : names_zone (as_zone zone) query ≡ false = sym test ∙ c.if-not-names_zone.true in
    not_named zone c.args.history.now _ c.args.request.now _ (one_query c.args.request.now.message.queries.queries) query c.in-Ok.ensures.query other refl

pub returns-then-is_by_soa : goal.returns-then-is_by_soa
returns-then-is_by_soa g c =
    let zone = c.args.zone.now.zone in
    let query = c.in-Ok.info.query.now in
    let origin : zone.origin ≡ c.origin.result.now = search rules in
    let test : c.names_zone.result ≡ names_zone (as_zone zone) query = c.names_zone.ensures (as_zone zone) origin in
    let named : names_zone (as_zone zone) query ≡ true = sym test ∙ c.if-not-names_zone.false in
    let tested : c.is_by_soa.result ≡ is_by_soa zone c.args.request.now query = subst (λ (m : MemoryZone). c.is_by_soa.result ≡ is_by_soa m c.args.request.now query) c.in_memory-2.ensures c.is_by_soa.ensures in
    by_soa zone c.args.history.now _ c.args.request.now _ (one_query c.args.request.now.message.queries.queries) query c.in-Ok.ensures.query named
    (sym tested ∙ c.if-is_by_soa.true) c.soa_transfer.ensures

pub returns-then-is_empty : goal.returns-then-is_empty
returns-then-is_empty g c =
    let zone = c.args.zone.now.zone in
    let query = c.in-Ok.info.query.now in
    let origin : zone.origin ≡ c.origin.result.now = search rules in
    let test : c.names_zone.result ≡ names_zone (as_zone zone) query = c.names_zone.ensures (as_zone zone) origin in
    let named : names_zone (as_zone zone) query ≡ true = sym test ∙ c.if-not-names_zone.false in
    let tested : c.is_by_soa.result ≡ is_by_soa zone c.args.request.now query = subst (λ (m : MemoryZone). c.is_by_soa.result ≡ is_by_soa m c.args.request.now query) c.in_memory-2.ensures c.is_by_soa.ensures in
    whole zone c.args.history.now _ c.args.request.now c.zone_transfer.result (one_query c.args.request.now.message.queries.queries) query c.in-Ok.ensures.query _ named
    (sym tested ∙ c.if-is_by_soa.false)
    c.since_version-differences.ensures (c.is_empty.ensures.0 c.if-is_empty.true) c.zone_transfer.ensures

pub returns : goal.returns
returns g c =
    let zone = c.args.zone.now.zone in
    let query = c.in-Ok.info.query.now in
    let origin : zone.origin ≡ c.origin.result.now = search rules in
    let test : c.names_zone.result ≡ names_zone (as_zone zone) query = c.names_zone.ensures (as_zone zone) origin in
    let named : names_zone (as_zone zone) query ≡ true = sym test ∙ c.if-not-names_zone.false in
    let tested : c.is_by_soa.result ≡ is_by_soa zone c.args.request.now query = subst (λ (m : MemoryZone). c.is_by_soa.result ≡ is_by_soa m c.args.request.now query) c.in_memory-2.ensures c.is_by_soa.ensures in
    by_differences zone c.args.history.now _ c.args.request.now _ (one_query c.args.request.now.message.queries.queries) query c.in-Ok.ensures.query _ named
    (sym tested ∙ c.if-is_by_soa.false)
    c.since_version-differences.ensures (λ none. let no : true ≡ false = sym (c.is_empty.ensures.1 none) ∙ c.if-is_empty.false in cc) c.incremental.ensures
