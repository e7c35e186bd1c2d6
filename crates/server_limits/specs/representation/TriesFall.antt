-- Each side of a node has fewer networks than the node.
use Rattle.std.specs.Prelude.{◌+◌, ◌≤◌, ◌<◌, ◌⊎◌, max, Bool, true, false, cond, List, [], ◌∷◌, ◌++◌, Option, Some, None, length, IsTrue, Box}
use Rattle.std.proofs.Common.{arith, length-append, inl, inr}
use Rattle.std.specs.declared.alloc.Global.{Global}
use Rattle.server_limits.specs.Access.{Network}
use Rattle.server_limits.specs.declared.access_control.trie.Node.{Node}
use Rattle.server_limits.specs.declared.access_control.trie.Trie.TheDeep.{deep-Trie}
use Rattle.server_limits.specs.representation.Tries.{networks, IsTrie}

sides_fall : (ends : Bool) (prefix : Network) (zero one : List Network) → IsTrue ends ⊎ ((0 < length zero) × (0 < length one))
    → max (length zero + 1) (length one + 1) ≤ length (cond ends (prefix ∷ []) [] ++ (zero ++ one))
sides_fall true prefix zero one h = omega (arith, length-append zero one)
sides_fall false prefix zero one (inl h) = absurd (cc)
sides_fall false prefix zero one (inr both) = omega (arith, length-append zero one)

pub size_falls : (root : Option (Box Node Global)) → IsTrie root → deep-Trie (record { root = root }) ≤ length (networks root)
size_falls None h = omega arith
size_falls (Some node) h = let sides = sides_fall node.value.ends node.value.prefix node.value.zero node.value.one h.needed in omega arith
