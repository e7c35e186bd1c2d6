-- A digest that is hashed once more is what is left to be hashed once less.
use Rattle.std.proofs.Common.{◌≡◌, suc, ◌+◌, ◌-◌, ◌∙◌, ap, sym, arith}
use Rattle.zone_denials.specs.Nsec3.{hashed_again}
use Rattle.zone_denials.proofs.nsec3.hash.Goals as goal

pub loop-i-preserved : goal.loop-i-preserved
loop-i-preserved c =
    let salt = c.args.salt.now in
    let left = c.args.iterations - (c.loop-i.i + 1) in
    let e : c.args.iterations - c.loop-i.i ≡ suc (c.args.iterations - (c.loop-i.i + 1)) = omega arith in
    ap (hashed_again salt left) c.hashed-digest.ensures ∙ (sym (ap (λ n. hashed_again salt n c.loop-i.digest) e) ∙ c.loop-i.invariant)
