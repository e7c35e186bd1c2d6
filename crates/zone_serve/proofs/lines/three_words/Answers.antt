use Rattle.zone_serve.proofs.Words.{three_words}
use Rattle.zone_serve.proofs.lines.three_words.Goals as goal

pub returns-in-None : goal.returns-in-None
returns-in-None c =
    let (_, _, _, (gap, sep, is, gaps, (seps, _, _))) = c.in_ok-first.ensures.steps in
    let (_, _, _, (gap2, sep2, is2, gaps2, (seps2, _, _))) = c.in_ok-second.ensures.steps in
    let (_, _, _, (gap3, sep3, is3, gaps3, (seps3, _, _))) = c.in_ok-third.ensures.steps in
    three_words _ _ _ _ gap sep _ gap2 sep2 _ gap3 sep3 _ (rw c.split_ascii_whitespace-words.ensures.text at is) is2 is3 gaps seps gaps2 seps2 gaps3 seps3 c.in-None.ensures.steps.0
