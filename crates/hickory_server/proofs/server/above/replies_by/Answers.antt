use Rattle.std.proofs.Common.{◌≡◌, ap, rules}
use Rattle.hickory_server.specs.server.Sending.{SentReplies}
use Rattle.hickory_server.proofs.server.above.replies_by.Goals as goal

pub returns : goal.returns
returns g c =
    let (replies, replied, made) = c.in_ok-hand_over_by.ensures in
    let same : c.into_replies.result ≡ c.hand_over_by.new.sink.replies = search rules in
    let sent : c.reusing-sink.result.sending ≡ c.args.sending = ap (λ (s : SentReplies). s.sending) c.reusing-sink.ensures in (replies, replied, rw same (rw sent at made))
