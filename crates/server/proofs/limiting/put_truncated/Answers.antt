use Rattle.std.proofs.Common.{◌≡◌, ◌≤◌, ◌++◌, ℕ, List, length, take}
use Rattle.server_limits.specs.Truncating.{IsTruncated}
use Rattle.server.specs.Frames.{BeginsWith, IsFrame}
use Rattle.server.proofs.Results.{some_more}
use Rattle.server.proofs.limiting.put_truncated.Goals as goal

pub returns-clause-some : goal.returns-clause-some
returns-clause-some c =
    let old : List ℕ = take c.args.written c.args.out.now in
    let new : List ℕ = c.put_frame.new.out in
    some_more c.put_frame.result
    (λ end. (end ≤ length new) × (frame : List ℕ) × IsFrame frame c.deref.result.now × (take end new ≡ take 0 c.args.out.now ++ frame))
    (λ end. (end ≤ length new) × (reply : List ℕ) × (short : List ℕ) × BeginsWith old reply × IsTruncated reply short × IsFrame (take end new) short)
    (λ end put.
    let (within, frame, is, front) = put in
    (within, c.in-Some.reply.now, c.in-Ok-Some.short.items, c.in-Some.ensures.whole, rw c.in-Ok-Some.field-0-is at c.in-Ok-Some.ensures, rw front (rw c.deref.ensures.value at is)))
    c.put_frame.ensures.frame
