use Rattle.std.proofs.Common.{sym, subst}
use Rattle.hickory_base.specs.declared.zone_store.lookup.LookupOptions.{LookupOptions}
use Rattle.hickory_catalog.specs.queries.Authoritative.{denies}
use Rattle.hickory_catalog.specs.queries.DenialRecords.{DenialOfNegative}
use Rattle.hickory_catalog.specs.queries.Transcripts.{options_of}
use Rattle.hickory_catalog.proofs.lemmas.queries.QueryReplies.{if_ok_map}
use Rattle.hickory_catalog.proofs.authoritative.nothing_contents.Goals as goal

pub returns-clause-replied : goal.returns-clause-replied
returns-clause-replied g c =
    let given = c.in_ok-denial.ensures.given in
    let denied : DenialOfNegative g.H.ZoneHandler c.args.handler.now c.args.query.now (options_of c.args.request.now) given.0 =
    subst (λ (o : LookupOptions). DenialOfNegative g.H.ZoneHandler c.args.handler.now c.args.query.now o given.0) c.options_of-options.ensures given.1 in
    let soa = rw (c.origin.ensures, c.options_of-options.ensures) at c.lookup-soa.ensures in
    if_ok_map c.negative_contents-contents.result _ _ c.negative_contents-contents.ensures.replied
    (λ contents w. denies given.0 c.lookup-soa.result c.requires denied given.3 soa w.0 (rw c.metadata.ensures at w.1 given.0 (sym given.2)))
