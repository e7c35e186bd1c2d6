use Rattle.std.proofs.Common.{refl}
use Rattle.hickory_catalog.specs.replies.Replies.{contents_of, unsigned_reply}
use Rattle.hickory_catalog.specs.replies.Signing.{plain}
use Rattle.hickory_catalog.proofs.signing.send_signed.Goals as goal

pub returns-in-Some-clause-replied : goal.returns-in-Some-clause-replied
returns-in-Some-clause-replied g c = rw c.in-Some.is c.send_with_signature.ensures.replied

pub returns-in-None-clause-replied : goal.returns-in-None-clause-replied
returns-in-None-clause-replied g c = (
  unsigned_reply c.args.request.now c.args.edns.now (contents_of c.args.contents.now),
  rw c.in-None.is (plain refl),
  rw (c.as_ref.ensures.value, c.set_high_code.ensures) at c.send_contents.ensures,
)
