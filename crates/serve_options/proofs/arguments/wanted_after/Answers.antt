use Rattle.std.proofs.Common.{arith, refl}
use Rattle.serve_options.proofs.arguments.wanted_after.Goals as goal

pub returns-in-text-3-3-clause-known : goal.returns-in-text-3-3-clause-known
returns-in-text-3-3-clause-known c = (2, omega arith, rw c.in-text-3.is-text-7 refl)

pub returns-in-text-2-clause-variant : goal.returns-in-text-2-clause-variant
returns-in-text-2-clause-variant c = (λ _. (2, omega arith, rw c.in-text-2.is-text-3 refl), λ _. refl)

pub returns-in-text-2-2-clause-variant : goal.returns-in-text-2-2-clause-variant
returns-in-text-2-2-clause-variant c = (λ _. (3, omega arith, rw c.in-text-2.is-text-4 refl), λ _. refl)

pub returns-in-text-3-clause-variant : goal.returns-in-text-3-clause-variant
returns-in-text-3-clause-variant c = (λ _. (4, omega arith, rw c.in-text-3.is-text-5 refl), λ _. refl)

pub returns-in-text-3-2-clause-variant : goal.returns-in-text-3-2-clause-variant
returns-in-text-3-2-clause-variant c = (λ _. (5, omega arith, rw c.in-text-3.is-text-6 refl), λ _. refl)

pub returns-in-text-3-3-clause-variant : goal.returns-in-text-3-3-clause-variant
returns-in-text-3-3-clause-variant c = (λ _. (6, omega arith, rw c.in-text-3.is-text-7 refl), λ _. refl)

pub returns-in-text-3-4-clause-variant : goal.returns-in-text-3-4-clause-variant
returns-in-text-3-4-clause-variant c = (λ _. (7, omega arith, rw c.in-text-3.is-text-8 refl), λ _. refl)

pub returns-in-text-4-clause-variant : goal.returns-in-text-4-clause-variant
returns-in-text-4-clause-variant c = (λ _. (8, omega arith, rw c.in-text-4.is refl), λ _. refl)

pub returns-in-text-5-clause-variant : goal.returns-in-text-5-clause-variant
returns-in-text-5-clause-variant c = (λ _. (9, omega arith, rw c.in-text-5.is refl), λ _. refl)

pub returns-in-text-6-clause-variant : goal.returns-in-text-6-clause-variant
returns-in-text-6-clause-variant c = (λ _. (10, omega arith, rw c.in-text-6.is refl), λ _. refl)
