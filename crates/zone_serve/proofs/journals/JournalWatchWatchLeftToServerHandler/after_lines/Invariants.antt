-- The catalog stays.
use Rattle.std.proofs.Common.{◌≡◌}
use Rattle.zone_serve.proofs.journals.JournalWatchWatchLeftToServerHandler.after_lines.Given as goal

abbrev pub invariant-loop-place : goal.invariant-loop-place
invariant-loop-place g l = l.catalog ≡ l.fn.catalog
