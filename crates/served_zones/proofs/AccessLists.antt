-- What an access list has that was made of networks.
use Rattle.std.proofs.Common.{◌⊎◌, inl, inr, List, Contains}
use Rattle.server_limits.specs.Access.{Inserts, Network, SameNetworks}

-- Networks that were inserted where there were none are all that there are.
pub inserted_alone : (old given new : List Network) → ((network : Network) → ¬ (Contains old network)) → Inserts old given new → SameNetworks given new
inserted_alone old given new none inserts network = (λ held. by_place ((inserts network).0 held), λ is_given. (inserts network).1 (inr is_given)) where
  by_place : Contains old network ⊎ Contains given network → Contains given network
  by_place (inl was) = absurd (none network was)
  by_place (inr is_given) = is_given

pub none_stay : (old new : List Network) → ((network : Network) → ¬ (Contains old network)) → SameNetworks old new → (network : Network) → ¬ (Contains new network)
none_stay old new none same network held = none network ((same network).0 held)

pub same_stay : (given old new : List Network) → SameNetworks given old → SameNetworks old new → SameNetworks given new
same_stay given old new first second network = (λ held. (first network).0 ((second network).0 held), λ is_given. (second network).1 ((first network).1 is_given))
