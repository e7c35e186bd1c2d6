-- The replies of the server are signed, or lost.
use Rattle.std.proofs.Common.{inr, refl}
use Rattle.hickory_server.specs.declared.server.answer.Answer.TheVariants.{Replies}
use Rattle.signed_server.proofs.service.serve_good.Goals as goal

pub returns-in-Ok-clause-ok : goal.returns-in-Ok-clause-ok
returns-in-Ok-clause-ok g c =
    let (theirs, are, served) = c.in_ok-replies.ensures.ok in (
      theirs,
      Replies c.in_ok-replies.replies,
      rw (c.is_by_one_of-is_open.ensures, c.keys_for-names.ensures, c.message.ensures, c.request.ensures) at are,
      served,
      (c.in-Ok.leaving, rw (c.serve_opened.ensures.rules, c.request-2.ensures, c.serve_opened.ensures.request) at c.in-Ok.ensures, refl),
    )

pub returns-in-Err-clause-err : goal.returns-in-Err-clause-err
returns-in-Err-clause-err g c =
    let (theirs, are, served) = c.in_ok-replies.ensures.ok in
    inr (inr (
      refl,
      c.args.judgement.now,
      c.args.server.now.request,
      theirs,
      c.requires.read,
      rw (c.is_by_one_of-is_open.ensures, c.keys_for-names.ensures, c.message.ensures, c.request.ensures) at are,
      Replies c.in_ok-replies.replies,
      served,
    ))
