use Rattle.std.proofs.Common.{◌≡◌, false, None, rules, refl}
use Rattle.std.specs.Prelude.{◌==◌}
use Rattle.hickory_base.specs.declared.zone_store.lookup.LookupControlFlow.TheVariants.{Skip}
use Rattle.hickory_catalog.proofs.lemmas.queries.QueryReplies.{if_ok_map}
use Rattle.hickory_catalog.proofs.authoritative.records_beside.Goals as goal

pub returns-then-is_nothing_denied-clause-given : goal.returns-then-is_nothing_denied-clause-given
returns-then-is_nothing_denied-clause-given g c =
    let other : (c.args.query.now.query_type == 6) ≡ false = search rules in
    let cannot : g.H.ZoneHandler.nx_proof_kind_of c.args.handler.now ≡ None = search rules in
    (Skip, rw (other, cannot) refl, search rules, refl)

pub returns-clause-given : goal.returns-clause-given
returns-clause-given g c =
    if_ok_map c.records_given-records.result _ _ c.records_given-records.ensures.given (λ records w. (c.beside_answer-beside.result, c.beside_answer-beside.ensures, w.0, w.1))
