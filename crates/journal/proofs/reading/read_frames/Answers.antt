-- One frame more.
use Rattle.std.proofs.Common.{◌≡◌, ◌++◌, ap, sym, ◌∙◌, subst, rules, List, ℕ, Vec}
use Rattle.std.specs.declared.alloc.Global.{Global}
use Rattle.journal.specs.Frames.{AreSmall, frames}
use Rattle.journal.specs.Read.{contents}
use Rattle.journal.proofs.Recovery.{split_more, small_and_more}
use Rattle.journal.proofs.reading.read_frames.Goals as goal

pub loop-entry-preserved : goal.loop-entry-preserved
loop-entry-preserved c =
    let v = c.in_ok-to_vec.field-0 in
    let same : c.in_ok-to_vec.field-0.items ≡ c.in-Some.entry.now = search rules in
    let items = c.in_ok-push.ensures.items in
    record {
      split = split_more c.args.bytes.now c.loop-entry.rest.now c.in-Some.entry.now c.in-Some.behind.now c.loop-entry.entries.items v c.loop-entry.invariant.split c.in-Some.ensures.some.1 same
          ∙ ap (λ (es : List (Vec ℕ Global)). frames (contents es) ++ c.in-Some.behind.now) (sym items);
      small = subst (λ (es : List (Vec ℕ Global)). AreSmall (contents es)) (sym items) (small_and_more c.loop-entry.entries.items v c.in-Some.entry.now c.loop-entry.invariant.small c.in-Some.ensures.some.0 same);
    }
