-- One byte more is flipped.
use Rattle.std.proofs.Common.{arith, bit_xor, get_or, ◌<◌, length}
use Rattle.std.proofs.lemmas.List.{get_or_default}
use Rattle.std.proofs.lemmas.List.Edits.{map_over_more}
use Rattle.tsig.proofs.macs.flip.Goals as goal

pub loop-b-preserved : goal.loop-b-preserved
loop-b-preserved c =
    let within : c.loop-b.b-index < length c.loop-b.bytes = grind arith in
    map_over_more (λ b. bit_xor b c.args.pad) c.args.bytes.now c.loop-b.bytes c.loop-b.b-index (get_or c.loop-b.bytes c.loop-b.b-index 0) (omega arith) c.loop-b.invariant
    (get_or_default c.loop-b.bytes c.loop-b.b-index 0 (get_or c.loop-b.bytes c.loop-b.b-index 0) within)
