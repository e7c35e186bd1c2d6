-- The messages so far are counted.
use Rattle.std.proofs.Common.{◌≡◌, ◌≤◌, ◌*◌, List, ℕ, fold, length, take}
use Rattle.server.specs.Counted.{one_counted}
use Rattle.server.specs.Frames.{AreFrames}
use Rattle.server.proofs.counting.count_frames.Given as goal

abbrev pub invariant-loop : goal.invariant-loop
invariant-loop l = (2 * l.counter ≤ l.at) × (l.at ≤ length l.frames)
    × (messages : List (List ℕ)) × AreFrames (take l.at l.frames) messages × (l.counters ≡ fold (one_counted l.came) l.fn.counters messages)
