use Rattle.std.proofs.Common.{◌+◌, ℕ, false, ap, drop, arith}
use Rattle.std.proofs.lemmas.List.{drop_all}
use Rattle.wire_names.proofs.lemmas.rr.domain.SharedEnds.{unescaped_len, unescaped_key, passes_one, passes_two}
use Rattle.wire_names.proofs.rr.domain.order_key.wire_len.Goals.{then-key-place-eq1, else-key-place-eq1}
use Rattle.wire_names.proofs.rr.domain.order_key.wire_len.Goals as goal

pub loop-place-preserved : goal.loop-place-preserved
loop-place-preserved c =
    elim c.if-key-place-eq1.branch [
      | then-key-place-eq1 w ↦ record {
        few = omega (arith, c.loop-place.invariant.few, w.place-is);
        passed = omega (
          arith,
          c.loop-place.invariant.passed,
          passes_two c.args.key.now c.loop-place.place c.loop-place-test.true w.if-key-place-eq1.true,
          ap (λ (n : ℕ). unescaped_len false (drop (c.loop-place.place + n) c.args.key.now)) w.place-is,
        );
      }
      | else-key-place-eq1 w ↦ record {
        few = omega (arith, c.loop-place.invariant.few, w.place-is);
        passed = omega (
          arith,
          c.loop-place.invariant.passed,
          passes_one c.args.key.now c.loop-place.place c.loop-place-test.true w.if-key-place-eq1.false,
          ap (λ (n : ℕ). unescaped_len false (drop (c.loop-place.place + n) c.args.key.now)) w.place-is,
        );
      }
    ]

pub returns : goal.returns
returns c = λ labels is.
    omega (arith, c.loop-place.invariant.passed, ap (unescaped_len false) (drop_all c.loop-place.place c.args.key.now c.loop-place-test.false), ap (unescaped_len false) is, unescaped_key labels)
