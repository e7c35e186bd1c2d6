use Rattle.std.proofs.Common.{◌≡◌, true, rules, sym}
use Rattle.std.specs.List.{list_all}
use Rattle.hickory_base.specs.zone_store.Lookups.{asks_for_dnssec}
use Rattle.hickory_catalog.specs.queries.Forwarded.{is_passed_on}
use Rattle.hickory_catalog.proofs.lemmas.queries.KeptRecords.{all_kept}
use Rattle.hickory_catalog.proofs.forwarded.passed_on.Goals as goal

pub returns-then-all_are_passed_on : goal.returns-then-all_are_passed_on
returns-then-all_are_passed_on c =
    let all : list_all (is_passed_on (asks_for_dnssec c.args.request.now.edns) c.args.query.now.query_type) c.args.records ≡ true = search rules in
    sym (all_kept _ _ all)
