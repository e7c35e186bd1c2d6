use Rattle.std.proofs.Common.{◌≡◌, ℕ, Option, Some, None, refl, subst}
use Rattle.wire_messages.specs.op.EdnsFields.{EdnsFields}
use Rattle.hickory_base.specs.declared.requests.message_request.MessageRequest.{MessageRequest}
use Rattle.hickory_catalog.specs.replies.ReplyEdns.{with_high_code}
use Rattle.hickory_catalog.specs.transfers.Transfers.{AreRuns, size_without_answers}
use Rattle.hickory_catalog.proofs.transfer_replies.send_transfer.Goals as goal

-- the high bits of a code take no room of their own
same_front : (request : MessageRequest) (code : ℕ) (edns : Option EdnsFields) → size_without_answers request (with_high_code code edns) ≡ size_without_answers request edns
same_front request code None = refl
same_front request code (Some e) = refl

pub returns : goal.returns
returns g c =
    let sent = rw (c.as_ref.ensures.value, c.set_high_code.ensures) at c.send_runs.ensures in (
      _,
      record {
        runs = sent.0;
        are_runs = subst (λ (front : ℕ). AreRuns front c.args.records.now sent.0) (same_front c.args.request.now 0 c.args.edns.now) sent.1;
        replies_are = refl;
      },
      sent.2,
    )
