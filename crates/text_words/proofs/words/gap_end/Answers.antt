use Rattle.std.proofs.Common.{arith}
use Rattle.text_words.specs.Words.IsGap.{nothing, more}
use Rattle.text_words.proofs.words.gap_end.Goals as goal

pub pieces-init : goal.pieces-init
pieces-init c = record {
  on = omega arith;
  within = c.requires.within;
  counted = c.requires.counted;
  gap = nothing;
}

pub pieces-preserved : goal.pieces-preserved
pieces-preserved c = record {
  on = omega (arith, c.in-Some.ensures.on);
  within = c.in-Some.ensures.within;
  counted = c.in-Some.ensures.counted;
  gap = more c.pieces.invariant.gap c.in-Some.ensures.piece;
}

pub pieces-preserved-then-end-eq0 : goal.pieces-preserved-then-end-eq0
pieces-preserved-then-end-eq0 c = record {
  on = omega (arith, c.in-Some.ensures.on);
  within = c.in-Some.ensures.within;
  counted = c.in-Some.ensures.counted;
  gap = more c.pieces.invariant.gap c.in-Some.ensures.piece;
}
