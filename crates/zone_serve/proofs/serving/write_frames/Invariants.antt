-- The replies so far are written behind their lengths.
use Rattle.std.proofs.Common.{ℕ, List, take}
use Rattle.std.specs.Io.KnownBytes.{Appends}
use Rattle.server.specs.Frames.{AreFrames}
use Rattle.zone_serve.proofs.serving.write_frames.Given as goal

abbrev pub invariant-loop-reply : goal.invariant-loop-reply
invariant-loop-reply g l =
    (frames : List ℕ) × AreFrames frames (take l.reply-index l.replies) × Appends (g.W.Write.contents l.initial.writer) (g.W.Write.contents l.writer) frames
