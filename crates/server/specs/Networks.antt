-- The networks of a server's rules.
use Rattle.std.specs.Prelude.{◌∷◌, [], ℕ, Contains, List}
use Rattle.std.specs.List.{flat_map}
use Rattle.served_keys.specs.ServedKeys.{all_networks, parts_of}
use Rattle.server_limits.specs.Access.{AccessSets, Inserts, Network}
use Rattle.server_limits.specs.NetworkTexts.{IsNetworkText}

-- The network that the text spells is one more of a list.
abbrev pub InsertsText : List ℕ → List Network → List Network → Type 0
InsertsText text old new = (network : Network) × IsNetworkText text network × Inserts old (network ∷ []) new

-- The network that the text spells is allowed, and all addresses are denied that no network allows.
pub record AllowsText (text : List ℕ) (old new : AccessSets) : Type 0 where
  pub network : Network
  pub spelled : IsNetworkText text network
  pub allowed : Inserts old.allow (flat_map parts_of (network ∷ [])) new.allow
  pub denied : Inserts old.deny all_networks new.deny

-- No network is in a list.
abbrev pub HasNoNetwork : List Network → Type 0
HasNoNetwork networks = (network : Network) → ¬ (Contains networks network)
