use Rattle.std.proofs.Common.{◌≤◌, ℕ, [], ◌∷◌, ◌++◌, ◌+◌, ◌∙◌, ap, arith, drop, inl, length, rules}
use Rattle.std.proofs.lemmas.List.{length-drop}
use Rattle.server_reports.specs.declared.counters.Counters.{Counters}
use Rattle.server.specs.Counted.{one_counted}
use Rattle.server.proofs.Counted.{fold_more}
use Rattle.server.proofs.Written.{frames_more}
use Rattle.server.proofs.Streams.{front_more, rest_is, within_more}
use Rattle.server.proofs.counting.count_frames.Goals as goal

pub loop-preserved : goal.loop-preserved
loop-preserved c =
    let (turns, inside, messages, are_messages, counted) = c.loop.invariant in
    let message = c.in-Some.message.now in
    let begins = rw (rest_is c.args.frames.now c.loop.at) at c.in-Some.ensures.whole in
    let (frame, is, front) = front_more c.args.frames.now c.loop.at message begins in (
      omega arith,
      within_more c.args.frames.now c.loop.at message inside begins,
      messages ++ message ∷ [],
      rw front (frames_more _ messages frame message are_messages is),
      c.count_one.ensures ∙ ap (λ (so_far : Counters). one_counted c.args.came so_far message) counted ∙ fold_more (one_counted c.args.came) c.args.counters.now messages message,
    )

-- Nothing stands behind the last message.
pub returns-then-at-frames : goal.returns-then-at-frames
returns-then-at-frames c =
    let (turns, inside, messages, are_messages, counted) = c.loop.invariant in
    let message = c.in-Some.message.now in
    let begins = rw (rest_is c.args.frames.now c.loop.at) at c.in-Some.ensures.whole in
    let (frame, is, front) = front_more c.args.frames.now c.loop.at message begins in
    let end = c.loop.at + (2 + length message) in
    let all : length c.args.frames.now ≤ end = search rules in
    record {
      messages = messages ++ message ∷ [];
      end = end;
      are_messages = rw front (frames_more _ messages frame message are_messages is);
      no_more = inl (omega (arith, all, length-drop {A = ℕ}));
      counted = c.count_one.ensures ∙ ap (λ (so_far : Counters). one_counted c.args.came so_far message) counted ∙ fold_more (one_counted c.args.came) c.args.counters.now messages message;
    }
