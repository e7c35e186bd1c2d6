-- Replies are shared out; or one of them cannot be sent, and only the question is signed.
use Rattle.hickory_base.proofs.lemmas.ResultMaps.{if_ok_map}
use Rattle.signed_server.specs.SignedAnswers.AreToBeSigned.{failed, shared}
use Rattle.signed_server.proofs.answers.stream_to_be_signed.Goals as goal

pub returns-in-Some : goal.returns-in-Some
returns-in-Some c = shared c.in_ok-stripped.stripped.items c.requires c.in_ok-stripped.ensures (rw c.in-Some.is at c.in_ok-messages.ensures)

pub returns : goal.returns
returns c =
    let (reply, among, unsent) = rw c.in_default.is at c.in_ok-messages.ensures in
    if_ok_map c.only_bare.result _ _ (rw (c.error_metadata-failure.ensures, c.message-message.ensures) at c.only_bare.ensures) (λ messages made.
    let (bytes, bare, one) = made in failed c.in_ok-stripped.stripped.items reply c.requires c.in_ok-stripped.ensures among unsent bare one)
