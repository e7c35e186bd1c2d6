use Rattle.hickory_catalog.specs.queries.Queries.{whole_contents}
use Rattle.hickory_catalog.specs.replies.Replies.{unsigned_reply}
use Rattle.hickory_catalog.specs.requests.Server.{server_of}
use Rattle.hickory_catalog.proofs.lemmas.queries.OneHandler.{whole_left}
use Rattle.hickory_catalog.proofs.queries.answer_by_several.Goals as goal

pub returns-in-Some-clause-replied : goal.returns-in-Some-clause-replied
returns-in-Some-clause-replied g c =
    let asked = c.args.asked.now in
    let whole = c.answer_put.new.whole in (
      unsigned_reply asked.request.now.message c.args.edns.now (whole_contents asked.request.now.message.metadata whole),
      rw c.requires.chain
          (whole_left (server_of g.H.ZoneHandler g.S.ReplySigner.signature_for asked.catalog.now) asked.request.now c.args.edns.now asked.moment asked.query.now c.args.first.now c.args.others.now whole c.requires.lookup
          c.in-Some.ensures.gives c.in-Some.ensures.in_range (c.others_leave.ensures c.if-not-others_leave.false)),
      c.in-Some.ensures.sent,
    )

pub returns-clause-replied : goal.returns-clause-replied
returns-clause-replied g c =
    let unput = rw c.in_default.is at c.answer_put.ensures.unput in
    rw (unput.0, unput.1) at c.answer_by_chain-2.ensures.replied

pub returns-clause-refused : goal.returns-clause-refused
returns-clause-refused g c =
    let unput = rw c.in_default.is at c.answer_put.ensures.unput in
    rw unput.0 at c.answer_by_chain-2.ensures.refused
