-- The keys of a server, from the bytes of their file and by the names that an operator writes, and the networks of all
-- addresses.
use Rattle.std.specs.Prelude.{◌≡◌, ◌≢◌, ◌==◌, if◌then◌else◌, ℕ, IsTrue, List, [], ◌∷◌, is_some, true}
use Rattle.server_limits.specs.Access.{Network}
use Rattle.server_limits.specs.declared.access_control.Family.{Family}
use Rattle.server_limits.specs.declared.access_control.Family.TheVariants.{Ipv4, Ipv6}
use Rattle.tsig.specs.KeyFiles.{AreKeysOfText}
use Rattle.tsig.specs.Keys.{key_of}
use Rattle.tsig.specs.declared.keys.Key.{Key}
use Rattle.wire_names.specs.rr.domain.DomainName.{DomainName}
use Rattle.wire_names.specs.rr.domain.NameText.{IsNameText}

-- The text spells the name of a key (RFC 8945 section 4.2), with or without a dot at its end.
abbrev pub IsKeyName : List ℕ → DomainName → Type 0
IsKeyName text name = (named : DomainName) × IsNameText text named × (name ≡ record named { is_fqdn = true })

-- The text spells the name of one of these keys.
pub record IsKeyNamed (keys : List Key) (text : List ℕ) (name : DomainName) : Type 0 where
  pub spelled : IsKeyName text name
  pub known : IsTrue (is_some (key_of keys name))

-- The text of a file has these keys, at least one.
abbrev pub AreKeysOfFile : List ℕ → List Key → Type 0
AreKeysOfFile text keys = (keys ≢ []) × AreKeysOfText text keys

-- the network of all addresses of a family: its prefix has no bit
abbrev pub network_of_all : Family → Network
network_of_all family = record { family = family; prefix_length = 0; prefix = 0 }

abbrev pub all_networks : List Network
all_networks = network_of_all Ipv4 ∷ network_of_all Ipv6 ∷ []

-- half of the addresses of a family: those whose first bit is this
abbrev pub half_of : Family → ℕ → Network
half_of family bit = record { family = family; prefix_length = 1; prefix = bit }

-- An allowed network as rules of access have it. Two halves stand for all addresses of a family: of two networks that
-- are as long the denied one decides, and all addresses are denied.
abbrev pub parts_of : Network → List Network
parts_of network = if network.prefix_length == 0 then half_of network.family 0 ∷ half_of network.family 1 ∷ [] else network ∷ []
