-- What is signed verifies.
use Rattle.tsig.proofs.Replies.{next_verifies, reply_verifies, wrong_has_none}
use Rattle.tsig.proofs.laws.replies_verify.Goals as goal

pub returns-clause-first : goal.returns-clause-first
returns-clause-first c = λ keys request message now later s v a w j right. reply_verifies keys request message now later s v a w j right

pub returns-clause-next : goal.returns-clause-next
returns-clause-next c = λ keys request message prior now later s a w j. next_verifies keys request message prior now later s a w j

pub returns-clause-wrong : goal.returns-clause-wrong
returns-clause-wrong c = λ keys s v message now reply e is. wrong_has_none keys s v message now reply e is
