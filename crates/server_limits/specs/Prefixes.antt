-- How networks lie in one another, by the bits of their prefixes.
use Rattle.std.specs.Prelude.{◌≡◌, ℕ, ◌+◌, ◌*◌, ◌/◌, ◌-◌, ◌^◌, ◌<◌, ◌≤◌, List, All}
use Rattle.server_limits.specs.Access.{Network, width}
use Rattle.server_limits.specs.declared.access_control.Family.{Family}

-- the network is the outer one or a part of it: its prefix begins with the outer prefix
pub record LiesIn (inner outer : Network) : Type 0 where
  pub family : inner.family ≡ outer.family
  pub longer : outer.prefix_length ≤ inner.prefix_length
  pub fits : inner.prefix_length ≤ width inner.family
  pub prefix : inner.prefix / 2 ^ (inner.prefix_length - outer.prefix_length) ≡ outer.prefix

-- the longest network in which both lie: where both are longer, they part at the next bit
pub record IsCommon (one other common : Network) : Type 0 where
  pub one_lies : LiesIn one common
  pub other_lies : LiesIn other common
  pub parts : common.prefix_length < one.prefix_length → common.prefix_length < other.prefix_length
      → ¬ (one.prefix / 2 ^ (one.prefix_length - (common.prefix_length + 1)) ≡ other.prefix / 2 ^ (other.prefix_length - (common.prefix_length + 1)))

-- the half of the network whose addresses go on with this bit
abbrev pub half : Network → ℕ → Network
half network bit = record {
  family = network.family;
  prefix_length = network.prefix_length + 1;
  prefix = network.prefix * 2 + bit;
}

-- the networks are of the family
abbrev pub IsOfFamily : Family → List Network → Type 0
IsOfFamily family = All (λ network. network.family ≡ family)
