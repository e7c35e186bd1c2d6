use Rattle.std.proofs.Common.{◌++◌, rules}
use Rattle.std.proofs.KnownBytes.{Appends-trans}
use Rattle.server.proofs.Written.{frames_more, one_more}
use Rattle.zone_serve.proofs.serving.write_frames.Goals as goal

pub loop-reply-preserved : goal.loop-reply-preserved
loop-reply-preserved g c =
    let so_far = c.loop-reply.invariant in
    let frame = c.put_framed.new.framed.items in
    let more = frames_more so_far.0 _ frame c.reply-item.result so_far.1 (rw c.as_slice.ensures at c.in_ok-put_framed.ensures) in (
      so_far.0 ++ frame,
      rw (one_more c.args.replies.now c.loop-reply.reply-index c.reply-item.result (search rules) c.reply-item.is) more,
      Appends-trans _ _ _ _ _ so_far.2 (rw c.deref.ensures.value at c.in_ok-write.ensures),
    )
