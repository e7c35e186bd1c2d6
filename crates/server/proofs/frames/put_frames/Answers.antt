use Rattle.std.proofs.Common.{◌≡◌, ◌++◌, rules, length, refl, sym, take, ◌∙◌, ap, append_assoc, arith}
use Rattle.std.proofs.lemmas.List.{take-append-drop}
use Rattle.server.proofs.Written.{begins_at, frames_more, none_at_end, one_more}
use Rattle.server.proofs.frames.put_frames.Goals as goal

pub loop-reply-preserved : goal.loop-reply-preserved
loop-reply-preserved c =
    let (len, within, count, frames, so_far, written) = c.loop-reply.invariant in
    let (room, frame, is, put) = c.in-Some.ensures.frame in (
      search rules,
      room,
      omega arith,
      frames ++ frame,
      rw (one_more c.args.replies.now c.loop-reply.reply-index c.reply-item-in-loop-reply.result (search rules) c.reply-item-in-loop-reply.is)
          (frames_more frames _ frame c.reply-item-in-loop-reply.result so_far (rw c.as_slice-in-loop-reply.ensures at is)),
      put ∙ ap (λ xs. xs ++ frame) written ∙ append_assoc _ frames frame,
    )

pub returns-in-None-clause-put : goal.returns-in-None-clause-put
returns-in-None-clause-put c =
    let (len, within, count, frames, so_far, written) = c.loop-reply.invariant in
    let same : c.put_frame.new.out ≡ c.loop-reply.out = search rules in
    let next = begins_at c.args.replies.now c.loop-reply.count c.reply-item-in-loop-reply.result (search rules) (rw (sym count) at c.reply-item-in-loop-reply.is) in
    record {
      written = take c.loop-reply.count c.args.replies.now;
      frames = frames;
      are_frames = rw count so_far;
      front = ap (take c.loop-reply.end) same ∙ written;
      all = sym (take-append-drop c.loop-reply.count c.args.replies.now);
      same_length = ap length same ∙ len;
      within = search rules;
      full = rw (next, same) (rw c.as_slice-in-loop-reply.ensures at (c.in-None.ensures.no_room refl));
    }

pub returns-clause-put : goal.returns-clause-put
returns-clause-put c =
    let (len, within, count, frames, so_far, written) = c.loop-reply.invariant in
    record {
      written = take c.loop-reply.count c.args.replies.now;
      frames = frames;
      are_frames = rw count so_far;
      front = written;
      all = sym (take-append-drop c.loop-reply.count c.args.replies.now);
      same_length = len;
      within = within;
      full = rw (none_at_end c.args.replies.now c.loop-reply.count (omega arith)) tt;
    }
