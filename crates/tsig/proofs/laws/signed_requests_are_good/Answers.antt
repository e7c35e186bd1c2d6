-- What a client signs is judged good.
use Rattle.tsig.proofs.Replies.{request_is_good}
use Rattle.tsig.proofs.laws.signed_requests_are_good.Goals as goal

pub returns : goal.returns
returns c = λ keys key message time fudge now a w is found t48 f16 early late shortest. request_is_good keys key message time fudge now a w is found t48 f16 early late shortest
