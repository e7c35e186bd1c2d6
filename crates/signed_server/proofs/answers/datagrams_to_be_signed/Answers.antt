-- Without room for a message, only the question is signed.
use Rattle.hickory_base.proofs.lemmas.ResultMaps.{if_ok_map}
use Rattle.std.specs.List.{All}
use Rattle.signed_server.specs.SharedReplies.{Fits}
use Rattle.signed_server.specs.SignedAnswers.AreToBeSigned.{cut}
use Rattle.signed_server.proofs.answers.datagrams_to_be_signed.Goals as goal

pub returns : goal.returns
returns c =
    let refused : ¬ (All (Fits c.args.limit) c.in_ok-messages.messages.items) = λ all.
    let yes = c.all_fit.ensures.1 (rw c.deref.ensures.value all) in
    let not = c.if-all_fit.false in absurd cc in
    if_ok_map c.only_bare.result _ _ (rw (c.truncated.ensures, c.message-message.ensures) at c.only_bare.ensures) (λ messages made.
    let (bytes, bare, one) = made in cut c.in_ok-messages.messages.items c.requires c.in_ok-messages.ensures refused bare one)
