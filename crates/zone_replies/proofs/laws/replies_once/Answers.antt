use Rattle.zone_replies.proofs.lemmas.replies.OneReply.{reply_once}
use Rattle.zone_replies.proofs.laws.replies_once.Goals as goal

pub returns : goal.returns
returns c = λ zone query one other. reply_once zone query one other
