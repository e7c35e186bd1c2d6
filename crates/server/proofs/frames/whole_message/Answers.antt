use Rattle.std.proofs.Common.{arith}
use Rattle.server.proofs.Whole.{begins}
use Rattle.server.proofs.frames.whole_message.Goals as goal

pub returns-clause-whole : goal.returns-clause-whole
returns-clause-whole c = begins c.args.bytes.now _ c.in-len2-up.len_at_least (omega arith) (omega (arith, c.type_inv.bytes 1)) c.if-rest-len.false
