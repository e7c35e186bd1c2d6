use Rattle.std.proofs.Common.{sym}
use Rattle.hickory_catalog.specs.queries.Authoritative.{BesideAnswer, finds}
use Rattle.hickory_catalog.specs.queries.Transcripts.{options_of}
use Rattle.hickory_catalog.proofs.authoritative.found_contents.Goals as goal

pub returns-clause-replied : goal.returns-clause-replied
returns-clause-replied g c =
    let w = c.in_ok-beside.ensures.given in
    let given : BesideAnswer g.H.ZoneHandler c.args.handler.now c.args.query.now (options_of c.args.request.now) c.args.found.now w.0 = rw (← c.options_of.ensures) w.1 in
    finds w.0 given w.3 (rw (c.metadata.ensures, c.query_type-query_type.ensures) at c.positive_contents.ensures w.0 (sym w.2))
