-- The replies so far are written behind their lengths.
use Rattle.std.proofs.Common.{◌≡◌, ◌≤◌, ◌++◌, ℕ, List, length, take}
use Rattle.server.specs.Frames.{AreFrames}
use Rattle.server.proofs.frames.put_frames.Given as goal

abbrev pub invariant-loop-reply : goal.invariant-loop-reply
invariant-loop-reply l = (length l.out ≡ length l.fn.out) × (l.end ≤ length l.out) × (l.count ≡ l.reply-index)
    × (frames : List ℕ) × AreFrames frames (take l.reply-index l.replies) × (take l.end l.out ≡ take l.at l.fn.out ++ frames)
