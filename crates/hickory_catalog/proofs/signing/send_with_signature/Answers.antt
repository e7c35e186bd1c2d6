use Rattle.std.proofs.Common.{◌≡◌, ℕ, Option, Some, None, refl}
use Rattle.wire_messages.specs.op.EdnsFields.{EdnsFields}
use Rattle.hickory_catalog.specs.replies.Replies.{contents_of, error_reply, unsigned_reply}
use Rattle.hickory_catalog.specs.replies.ReplyEdns.{with_high_code}
use Rattle.hickory_catalog.specs.replies.Signing.{failed, signed}
use Rattle.hickory_catalog.proofs.signing.send_with_signature.Goals as goal

-- the last code counts
recoded : (code other : ℕ) (edns : Option EdnsFields) → with_high_code other (with_high_code code edns) ≡ with_high_code other edns
recoded code other None = refl
recoded code other (Some e) = refl

pub returns-in-Ok-clause-replied : goal.returns-in-Ok-clause-replied
returns-in-Ok-clause-replied g c = (
  record (unsigned_reply c.args.request.now c.args.edns.now (contents_of c.args.contents.now)) { signature = Some c.in-Ok.made },
  signed (rw (c.as_ref.ensures.value, c.set_high_code.ensures) at c.in-Ok.ensures.signed) refl,
  rw (c.as_ref-in-Ok.ensures.value, c.set_high_code.ensures) at c.send_contents.ensures,
)

pub returns-in-Err-Failed-clause-replied : goal.returns-in-Err-Failed-clause-replied
returns-in-Err-Failed-clause-replied g c =
    let e = recoded c.args.contents.now.metadata.response_code 2 c.args.edns.now in
    let unsigned = c.in-Err-Failed.ensures.failed (λ e. cc) in (
      error_reply c.args.request.now c.args.edns.now 2,
      failed (rw (c.as_ref.ensures.value, c.set_high_code.ensures) at unsigned) refl,
      rw (c.set_high_code.ensures, e) at c.send_error.ensures,
    )
