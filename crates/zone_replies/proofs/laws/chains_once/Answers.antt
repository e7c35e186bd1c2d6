use Rattle.zone_replies.proofs.lemmas.replies.OneChain.{chain_once}
use Rattle.zone_replies.proofs.laws.chains_once.Goals as goal

pub returns : goal.returns
returns c = λ zone t left before name one other end last. chain_once zone t left before name one other end last
