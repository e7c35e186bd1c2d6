-- A path-compressed trie of networks (a PATRICIA tree): which networks it has, and where they stand.
use Rattle.std.specs.Prelude.{◌<◌, ◌⊎◌, cond, List, [], ◌∷◌, ◌++◌, length, Option, Some, None, All, IsTrue, Box}
use Rattle.std.specs.declared.alloc.Global.{Global}
use Rattle.server_limits.specs.Access.{Network}
use Rattle.server_limits.specs.Prefixes.{LiesIn, half}
use Rattle.server_limits.specs.declared.access_control.trie.Node.{Node}

-- the networks at a node and below it
abbrev pub networks_of : Node → List Network
networks_of node = cond node.ends (node.prefix ∷ []) [] ++ (node.zero ++ node.one)

-- the networks of a trie
abbrev pub networks : Option (Box Node Global) → List Network
networks None = []
networks (Some node) = networks_of node.value

-- Networks below a node stand on the side of their next bit. Where no network ends, both sides have some.
pub record IsNode (node : Node) : Type 0 where
  pub zero : All (λ network. LiesIn network (half node.prefix 0)) node.zero
  pub one : All (λ network. LiesIn network (half node.prefix 1)) node.one
  pub needed : IsTrue node.ends ⊎ ((0 < length node.zero) × (0 < length node.one))

abbrev pub IsTrie : Option (Box Node Global) → Type 0
IsTrie None = Unit {0}
IsTrie (Some node) = IsNode node.value
