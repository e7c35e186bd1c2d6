-- What is found of a message is taken from it.
use Rattle.std.proofs.Common.{arith, rules}
use Rattle.tsig.proofs.Strips.{stripped_fault, stripped_none, stripped_signed}
use Rattle.tsig.proofs.stripping.without_signature.Goals as goal

pub returns-in_ok-out-in-Ok-Some : goal.returns-in_ok-out-in-Ok-Some
returns-in_ok-out-in-Ok-Some c =
    rw c.in_ok-out-in-Ok-Some.ensures
    (stripped_signed c.args.bytes.now c.in-Ok-Some.p (λ k. omega (arith, c.type_inv.bytes k)) (rw c.in-Ok-Some.field-0-is at c.in-Ok-Some.ensures))

pub returns-in-Ok-None : goal.returns-in-Ok-None
returns-in-Ok-None c = stripped_none c.args.bytes.now (λ k. omega (arith, c.type_inv.bytes k)) (rw c.in-Ok-None.field-0-is at c.in-Ok-None.ensures)

pub returns-in-Err : goal.returns-in-Err
returns-in-Err c = stripped_fault c.args.bytes.now c.in-Err.field-0 (λ k. omega (arith, c.type_inv.bytes k)) (c.in-Err.ensures (search rules))
