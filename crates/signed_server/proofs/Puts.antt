-- What is put behind no bytes.
use Rattle.std.proofs.Common.{◌≡◌, ℕ, List, [], ◌⊎◌, IfOk, Option, Some, None, Result, Ok, Err, inl, inr, sym}
use Rattle.tsig.specs.Signing.{Puts, Reply}
use Rattle.tsig.specs.declared.signing.SigningError.{SigningError}
use Rattle.tsig.specs.declared.signing.SigningError.TheVariants.{Message}

-- it is the reply that is to be put, with its MAC
pub puts_made : (o : Option Reply) (new : List ℕ) (r : Result (List ℕ) SigningError) → Puts o [] new r ⊎ (r ≡ Err Message) → IfOk r (λ (mac : List ℕ). o ≡ Some (record { bytes = new; mac = mac }))
puts_made o new (Err e) h = tt
puts_made (Some reply) new (Ok mac) (inl (m, b)) = λ i. Some (record { bytes = sym b i; mac = sym m i })
puts_made (Some reply) new (Ok mac) (inr e) = absurd cc
puts_made None new (Ok mac) (inl bad) = absurd bad
puts_made None new (Ok mac) (inr e) = absurd cc
