use Rattle.std.proofs.Common.{rules}
use Rattle.std.proofs.KnownBytes.{Appends-trans}
use Rattle.zone_serve.proofs.Written.{concat_more}
use Rattle.zone_serve.proofs.serving.write_datagrams.Goals as goal

pub loop-reply-preserved : goal.loop-reply-preserved
loop-reply-preserved g c =
    rw (concat_more c.args.replies.now c.loop-reply.reply-index c.reply-item.result (search rules) c.reply-item.is)
    (Appends-trans _ _ _ _ _ c.loop-reply.invariant (rw c.as_slice.ensures at c.in_ok-write.ensures))
