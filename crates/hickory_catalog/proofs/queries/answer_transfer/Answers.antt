use Rattle.hickory_catalog.specs.requests.Server.{server_of}
use Rattle.hickory_catalog.proofs.lemmas.queries.QueryReplies.{if_ok_map, transferred}
use Rattle.hickory_catalog.proofs.queries.answer_transfer.Goals as goal

pub returns-clause-replied : goal.returns-clause-replied
returns-clause-replied g c =
    let asked = c.args.asked.now in
    if_ok_map c.give_transfer.result _ _ c.give_transfer.ensures.replied
    (λ info w. (
      w.0,
      transferred (server_of g.H.ZoneHandler g.S.ReplySigner.signature_for asked.catalog.now) asked.chain.now asked.request.now c.args.edns.now asked.moment asked.query.now w.0 c.requires w.1,
      w.2,
    ))
