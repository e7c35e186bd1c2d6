-- The laws of signed replies, one behind the other.
use Rattle.signed_server.proofs.Uncut.{streams_uncut}
use Rattle.signed_server.proofs.Verified.{as_many, bad_replies, good_replies}
use Rattle.signed_server.proofs.laws.signed_replies.Goals as goal

pub returns-clause-good : goal.returns-clause-good
returns-clause-good c = λ keys request moment now s messages leaving last judged whole are.
    good_replies c.replies_verify.ensures.first c.replies_verify.ensures.next keys request moment now s messages leaving last judged whole are

pub returns-clause-every : goal.returns-clause-every
returns-clause-every c = λ keys judgement now messages leaving last are. as_many keys judgement now messages leaving last are

pub returns-clause-bad : goal.returns-clause-bad
returns-clause-bad c = λ keys judgement message now reply right is. bad_replies c.replies_verify.ensures.wrong keys judgement message now reply right is

pub returns-clause-streams : goal.returns-clause-streams
returns-clause-streams c = streams_uncut
