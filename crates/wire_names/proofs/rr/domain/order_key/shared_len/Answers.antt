use Rattle.std.proofs.Common.{ℕ, ◌+◌, sym, subst, arith}
use Rattle.wire_names.proofs.lemmas.rr.domain.SharedEnds.{SharedUpTo, none_shared, label_shared, byte_shared, shared_front}
use Rattle.wire_names.proofs.rr.domain.order_key.shared_len.Goals.{then-key-place-eq0, else-key-place-eq0}
use Rattle.wire_names.proofs.rr.domain.order_key.shared_len.Goals as goal

pub loop-place-init : goal.loop-place-init
loop-place-init c = none_shared c.args.key.now c.args.other.now

pub loop-place-preserved : goal.loop-place-preserved
loop-place-preserved c =
    elim c.if-key-place-eq0.branch [
      | then-key-place-eq0 w ↦
          subst (λ (n : ℕ). SharedUpTo c.args.key.now c.args.other.now n (c.loop-place.place + 1)) (sym w.shared-is)
          (label_shared c.args.key.now c.args.other.now c.loop-place.shared c.loop-place.place c.loop-place.invariant c.loop-place-test.true c.if-place-other.true c.if-key-place.true w.if-key-place-eq0.true)
      | else-key-place-eq0 w ↦
          subst (λ (n : ℕ). SharedUpTo c.args.key.now c.args.other.now n (c.loop-place.place + 1)) (sym w.shared-is)
          (byte_shared c.args.key.now c.args.other.now c.loop-place.shared c.loop-place.place c.loop-place.invariant c.loop-place-test.true c.if-place-other.true c.if-key-place.true w.if-key-place-eq0.false)
    ]

pub returns-else-key-place : goal.returns-else-key-place
returns-else-key-place c = shared_front c.args.key.now c.args.other.now c.loop-place.shared c.loop-place.place c.loop-place.invariant (λ within below. c.if-key-place.false)

pub returns-else-place-other : goal.returns-else-place-other
returns-else-place-other c = shared_front c.args.key.now c.args.other.now c.loop-place.shared c.loop-place.place c.loop-place.invariant (λ within below. absurd (omega (arith, below, c.if-place-other.false)))

pub returns-after-loop-place : goal.returns-after-loop-place
returns-after-loop-place c = shared_front c.args.key.now c.args.other.now c.loop-place.shared c.loop-place.place c.loop-place.invariant (λ within. absurd (omega (arith, within, c.loop-place-test.false)))
