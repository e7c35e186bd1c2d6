-- One message more fits; and all do at the end.
use Rattle.std.proofs.Common.{rules, refl, subst}
use Rattle.std.specs.List.{All}
use Rattle.std.proofs.lemmas.List.{take_all}
use Rattle.std.proofs.lemmas.List.Elements.{All-more}
use Rattle.signed_server.specs.SharedReplies.{Fits}
use Rattle.signed_server.proofs.answers.all_fit.Goals as goal

pub loop-message-preserved : goal.loop-message-preserved
loop-message-preserved c =
    All-more (Fits c.args.limit) c.args.messages.now c.loop-message.message-index c.message-item.result (search rules) c.loop-message.invariant
    (subst (Fits c.args.limit) c.message-item.is (c.fits.ensures.0 (search rules)))

pub returns : goal.returns
returns c = (
  λ _. subst (All (Fits c.args.limit)) (take_all c.loop-message.message-index c.args.messages.now (search rules)) c.loop-message.invariant,
  λ _. refl,
)
