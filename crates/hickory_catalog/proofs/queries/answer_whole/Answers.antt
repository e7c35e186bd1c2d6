use Rattle.std.proofs.Common.{refl}
use Rattle.hickory_catalog.specs.queries.Queries.{whole_contents}
use Rattle.hickory_catalog.specs.replies.Replies.{unsigned_reply}
use Rattle.hickory_catalog.specs.replies.Signing.{plain}
use Rattle.hickory_catalog.proofs.queries.answer_whole.Goals as goal

pub returns-in-Some-clause-replied : goal.returns-in-Some-clause-replied
returns-in-Some-clause-replied g c = rw c.in-Some.is c.answer_whole_signed.ensures.replied

pub returns-in-None-clause-replied : goal.returns-in-None-clause-replied
returns-in-None-clause-replied g c = (
  unsigned_reply c.args.request.now c.args.edns.now (whole_contents c.args.request.now.metadata c.args.whole.now),
  c.send_whole.ensures.in_range,
  rw c.in-None.is (plain refl),
  c.send_whole.ensures.sent,
)
