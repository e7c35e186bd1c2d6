use Rattle.std.proofs.Common.{◌+◌, length, sym, arith, take_all}
use Rattle.std.proofs.lemmas.Grind.{common_steps}
use Rattle.server_settings.proofs.reading.first_fault.Goals as goal

pub returns-in-Some : goal.returns-in-Some
returns-in-Some c =
    c.fault.ensures c.args.options.now c.args.text.now (c.loop-i.i + 1) (grind (arith, common_steps))
    (omega (arith, c.loop-i-test.true), λ i before ends. c.loop-i.invariant i (omega (arith, before)) ends) (grind (arith, common_steps))

pub returns : goal.returns
returns c =
    c.fault-2.ensures c.args.options.now c.args.text.now (length c.args.text.now) (sym (take_all (length c.args.text.now) c.args.text.now (omega arith)))
    (omega arith, λ i before ends. c.loop-i.invariant i (omega (arith, before, c.loop-i-test.false)) ends) c.requires
