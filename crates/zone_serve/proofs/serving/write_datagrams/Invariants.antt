-- The replies so far are written.
use Rattle.std.proofs.Common.{take}
use Rattle.std.specs.List.{concat}
use Rattle.std.specs.Io.KnownBytes.{Appends}
use Rattle.zone_serve.proofs.serving.write_datagrams.Given as goal

abbrev pub invariant-loop-reply : goal.invariant-loop-reply
invariant-loop-reply g l = Appends (g.W.Write.contents l.initial.writer) (g.W.Write.contents l.writer) (concat (take l.reply-index l.replies))
