-- The networks of a trie: how they stand at a node, how an insert changes them, and what a walk down has seen.
use Rattle.std.proofs.Common.{◌≡◌, ℕ, ◌+◌, ◌-◌, ◌/◌, ◌%◌, ◌^◌, ◌<◌, ◌≤◌, ◌⊎◌, ◌↔◌, Bool, true, false, cond, List, [], ◌∷◌, ◌++◌, length, IsTrue, Option, Some, None, Result, Ok, Err, OnOk, OnErr, Any, All, Box, Contains, inl, inr, refl, sym, ap, ◌∙◌, subst, arith, length-append}
use Rattle.std.proofs.lemmas.List.Elements.{Contains-get_or, Contains-append_left, Contains-append_right, Contains-append_cases, Contains-push, Contains-push_cases, All-contains}
use Rattle.server_limits.specs.declared.access_control.Address.{Address}
use Rattle.server_limits.specs.declared.access_control.Family.{Family}
use Rattle.server_limits.specs.Access.{Network, Matches, IsLongestMatch, Inserts, first_bits, width}
use Rattle.server_limits.specs.Prefixes.{LiesIn, half, IsCommon}
use Rattle.std.specs.declared.alloc.Global.{Global}
use Rattle.server_limits.specs.representation.Tries.{IsNode, networks_of, networks, IsTrie}
use Rattle.server_limits.specs.declared.access_control.trie.Node.{Node}
use Rattle.server_limits.proofs.lemmas.Prefixes.{LiesIn-whole, LiesIn-through, LiesIn-half, same_from_LiesIn, matched_bit, other_half}

-- the networks of a node, by its parts
abbrev pub at_node : Bool → Network → List Network → List Network → List Network
at_node ends prefix zero one = cond ends (prefix ∷ []) [] ++ (zero ++ one)

none_in_nil : (m : Network) → Contains [] m → ⊥
none_in_nil m h = omega (arith, h.1)

pub one_in_single : (x m : Network) → Contains (x ∷ []) m → m ≡ x
one_in_single x m h = elim (Contains-push_cases [] x m h) [ inl none ↦ absurd (none_in_nil m none) | inr is ↦ sym is ]

pub in_single : (x m : Network) → m ≡ x → Contains (x ∷ []) m
in_single x m is = subst (Contains (x ∷ [])) (sym is) (Contains-push [] x)

all_of : (P : Network → Type 0) (xs : List Network) → ((m : Network) → Contains xs m → P m) → All P xs
all_of P xs f = λ k d low. f _ (Contains-get_or xs k d low)

-- ---- where a network of a node stands
module _ (prefix : Network) (zero one : List Network) where
  pub at_cases : (ends : Bool) (m : Network) → Contains (at_node ends prefix zero one) m → (IsTrue ends × (m ≡ prefix)) ⊎ (Contains zero m ⊎ Contains one m)
  at_cases true m h =
      elim (Contains-append_cases (prefix ∷ []) (zero ++ one) m h) [
        | inl here ↦ inl (refl, one_in_single prefix m here)
        | inr below ↦ inr (Contains-append_cases zero one m below)
      ]
  at_cases false m h = inr (Contains-append_cases zero one m h)

  pub at_here : (ends : Bool) → IsTrue ends → Contains (at_node ends prefix zero one) prefix
  at_here true h = Contains-append_left (prefix ∷ []) (zero ++ one) prefix (Contains-push [] prefix)
  at_here false h = absurd (cc)

  pub at_zero : (ends : Bool) (m : Network) → Contains zero m → Contains (at_node ends prefix zero one) m
  at_zero ends m h = Contains-append_right (cond ends (prefix ∷ []) []) (zero ++ one) m (Contains-append_left zero one m h)

  pub at_one : (ends : Bool) (m : Network) → Contains one m → Contains (at_node ends prefix zero one) m
  at_one ends m h = Contains-append_right (cond ends (prefix ∷ []) []) (zero ++ one) m (Contains-append_right zero one m h)

  pub some_at : (ends : Bool) → IsTrue ends ⊎ ((0 < length zero) × (0 < length one)) → 0 < length (at_node ends prefix zero one)
  some_at true h = omega (arith, length-append (prefix ∷ []) (zero ++ one))
  some_at false (inl h) = absurd (cc)
  some_at false (inr both) = omega (arith, length-append zero one)

module _ (node : Node) where
  pub all_zero : (P : Network → Type 0) → All P (networks_of node) → All P node.zero
  all_zero P all = all_of P _ (λ m h. All-contains P _ m all (at_zero node.prefix node.zero node.one node.ends m h))

  pub all_one : (P : Network → Type 0) → All P (networks_of node) → All P node.one
  all_one P all = all_of P _ (λ m h. All-contains P _ m all (at_one node.prefix node.zero node.one node.ends m h))

  pub node_family : (family : Family) → IsNode node → All (λ (n : Network). n.family ≡ family) (networks_of node) → node.prefix.family ≡ family
  node_family family h all =
      elim h.needed [
        | inl ends ↦ All-contains (λ (n : Network). n.family ≡ family) _ _ all (at_here node.prefix node.zero node.one node.ends ends)
        | inr both ↦
            let first = Contains-get_or node.zero 0 node.prefix both.0 in
            sym (All-contains (λ (n : Network). LiesIn n (half node.prefix 0)) _ _ h.zero first).family
            ∙ All-contains (λ (n : Network). n.family ≡ family) _ _ all (at_zero node.prefix node.zero node.one node.ends _ first)
      ]

-- ---- a node whose parts grew
module _ (x : Network) where
  pub record Grows (old new : List Network) : Type 0 where
    pub kept : (m : Network) → Contains old m → Contains new m
    pub other : (m : Network) → Contains new m → Contains old m ⊎ (m ≡ x)

  Grows-same : (xs : List Network) → Grows xs xs
  Grows-same xs = record { kept = λ m h. h; other = λ m h. inl h }

  Grows-inserted : (old new : List Network) → Inserts old (x ∷ []) new → Grows old new
  Grows-inserted old new h = record {
    kept = λ m is. (h m).1 (inl is);
    other = λ m is. elim ((h m).0 is) [ inl o ↦ inl o | inr n ↦ inr (one_in_single x m n) ];
  }

  grown : (prefix : Network) (ends after : Bool) (zero one new_zero new_one : List Network) → (IsTrue ends → IsTrue after) → (IsTrue after → IsTrue ends ⊎ (prefix ≡ x))
      → Grows zero new_zero → Grows one new_one → Contains (at_node after prefix new_zero new_one) x
      → Inserts (at_node ends prefix zero one) (x ∷ []) (at_node after prefix new_zero new_one)
  grown prefix ends after zero one new_zero new_one stays made zeros ones got = λ m. (
    λ h. elim (at_cases prefix new_zero new_one after m h) [
      | inl here ↦ elim (made here.0) [
        | inl old ↦ inl (subst (Contains (at_node ends prefix zero one)) (sym here.1) (at_here prefix zero one ends old))
        | inr is ↦ inr (in_single x m (here.1 ∙ is))
      ]
      | inr below ↦ elim below [
        | inl z ↦ elim (zeros.other m z) [ inl old ↦ inl (at_zero prefix zero one ends m old) | inr is ↦ inr (in_single x m is) ]
        | inr o ↦ elim (ones.other m o) [ inl old ↦ inl (at_one prefix zero one ends m old) | inr is ↦ inr (in_single x m is) ]
      ]
    ],
    λ h. elim h [
      | inl old ↦ elim (at_cases prefix zero one ends m old) [
        | inl here ↦ subst (Contains (at_node after prefix new_zero new_one)) (sym here.1) (at_here prefix new_zero new_one after (stays here.0))
        | inr below ↦ elim below [
          | inl z ↦ at_zero prefix new_zero new_one after m (zeros.kept m z)
          | inr o ↦ at_one prefix new_zero new_one after m (ones.kept m o)
        ]
      ]
      | inr new ↦ subst (Contains (at_node after prefix new_zero new_one)) (sym (one_in_single x m new)) got
    ],
  )

  got_in : (old new : List Network) → Inserts old (x ∷ []) new → Contains new x
  got_in old new h = (h x).1 (inr (in_single x x refl))

  pub inserts_zero : (prefix : Network) (ends : Bool) (zero one new_zero : List Network) → Inserts zero (x ∷ []) new_zero
      → Inserts (at_node ends prefix zero one) (x ∷ []) (at_node ends prefix new_zero one)
  inserts_zero prefix ends zero one new_zero h =
      grown prefix ends ends zero one new_zero one (λ e. e) (λ e. inl e) (Grows-inserted zero new_zero h) (Grows-same one) (at_zero prefix new_zero one ends x (got_in zero new_zero h))

  pub inserts_one : (prefix : Network) (ends : Bool) (zero one new_one : List Network) → Inserts one (x ∷ []) new_one
      → Inserts (at_node ends prefix zero one) (x ∷ []) (at_node ends prefix zero new_one)
  inserts_one prefix ends zero one new_one h =
      grown prefix ends ends zero one zero new_one (λ e. e) (λ e. inl e) (Grows-same zero) (Grows-inserted one new_one h) (at_one prefix zero new_one ends x (got_in one new_one h))

  pub inserts_here : (ends : Bool) (zero one : List Network) → Inserts (at_node ends x zero one) (x ∷ []) (at_node true x zero one)
  inserts_here ends zero one =
      grown x ends true zero one zero one (λ e. refl) (λ e. inr refl) (Grows-same zero) (Grows-same one) (at_here x zero one true refl)

  -- a side stays on its side
  pub side_grows : (outer : Network) (bit : ℕ) (old new : List Network) → Inserts old (x ∷ []) new → LiesIn x (half outer bit)
      → All (λ n. LiesIn n (half outer bit)) old → All (λ n. LiesIn n (half outer bit)) new
  side_grows outer bit old new h lies all =
      all_of (λ n. LiesIn n (half outer bit)) new (λ m is. elim ((h m).0 is) [
        | inl o ↦ All-contains (λ n. LiesIn n (half outer bit)) old m all o
        | inr n ↦ subst (λ k. LiesIn k (half outer bit)) (sym (one_in_single x m n)) lies
      ])

  pub more_than_none : (old new : List Network) → Inserts old (x ∷ []) new → 0 < length new
  more_than_none old new h = let got = got_in old new h in omega (arith, got.1)

-- ---- a node above another
module _ (x common : Network) (old : List Network) where
  -- what stands beside the old node: nothing where the network is the new node itself
  pub record IsBeside (ends : Bool) (beside : List Network) : Type 0 where
    pub only : (m : Network) → Contains beside m → m ≡ x
    pub here : IsTrue ends → common ≡ x
    pub got : IsTrue ends ⊎ Contains beside x

  pub above_zero : (ends : Bool) (beside : List Network) → IsBeside ends beside → Inserts old (x ∷ []) (at_node ends common old beside)
  above_zero ends beside h = λ m. (
    λ is. elim (at_cases common old beside ends m is) [
      | inl here ↦ inr (in_single x m (here.1 ∙ h.here here.0))
      | inr below ↦ elim below [ inl o ↦ inl o | inr b ↦ inr (in_single x m (h.only m b)) ]
    ],
    λ is. elim is [
      | inl o ↦ at_zero common old beside ends m o
      | inr n ↦ subst (Contains (at_node ends common old beside)) (sym (one_in_single x m n)) (elim h.got [
        | inl e ↦ subst (Contains (at_node ends common old beside)) (h.here e) (at_here common old beside ends e)
        | inr b ↦ at_one common old beside ends x b
      ])
    ],
  )

  pub above_one : (ends : Bool) (beside : List Network) → IsBeside ends beside → Inserts old (x ∷ []) (at_node ends common beside old)
  above_one ends beside h = λ m. (
    λ is. elim (at_cases common beside old ends m is) [
      | inl here ↦ inr (in_single x m (here.1 ∙ h.here here.0))
      | inr below ↦ elim below [ inl b ↦ inr (in_single x m (h.only m b)) | inr o ↦ inl o ]
    ],
    λ is. elim is [
      | inl o ↦ at_one common beside old ends m o
      | inr n ↦ subst (Contains (at_node ends common beside old)) (sym (one_in_single x m n)) (elim h.got [
        | inl e ↦ subst (Contains (at_node ends common beside old)) (h.here e) (at_here common beside old ends e)
        | inr b ↦ at_zero common beside old ends x b
      ])
    ],
  )

-- what is at a node lies where its prefix lies
pub node_lies : (node : Node) (outer : Network) → IsNode node → LiesIn node.prefix outer → All (λ n. LiesIn n outer) (networks_of node)
node_lies node outer h lies =
    all_of (λ n. LiesIn n outer) (networks_of node) (λ m is. elim (at_cases node.prefix node.zero node.one node.ends m is) [
      | inl here ↦ subst (λ k. LiesIn k outer) (sym here.1) lies
      | inr below ↦ elim below [
        | inl z ↦ LiesIn-through m node.prefix outer (LiesIn-whole m node.prefix 0 (omega arith) (All-contains (λ n. LiesIn n (half node.prefix 0)) _ m h.zero z)) lies
        | inr o ↦ LiesIn-through m node.prefix outer (LiesIn-whole m node.prefix 1 (omega arith) (All-contains (λ n. LiesIn n (half node.prefix 1)) _ m h.one o)) lies
      ]
    ])

-- ---- the walk down to the longest match
abbrev pub IsUpTo : Option ℕ → Network → Type 0
IsUpTo None network = ⊥
IsUpTo (Some longest) network = network.prefix_length ≤ longest

abbrev pub IsFrom : Option ℕ → Network → Type 0
IsFrom None network = Unit {0}
IsFrom (Some longest) network = longest ≤ network.prefix_length

abbrev pub IsFound : List Network → Address → Option ℕ → Type 0
IsFound set address None = Unit {0}
IsFound set address (Some longest) = Any (λ network. Matches address network × (network.prefix_length ≡ longest)) set

-- What matches is below still, or no longer than the longest so far; and what is below is no shorter.
pub record IsWalked (set below : List Network) (address : Address) (longest : Option ℕ) : Type 0 where
  pub within : (m : Network) → Contains below m → Contains set m
  pub settled : (m : Network) → Contains set m → Matches address m → Contains below m ⊎ IsUpTo longest m
  pub longer : (m : Network) → Contains below m → IsFrom longest m
  pub found : IsFound set address longest

pub walk_begins : (set : List Network) (address : Address) → IsWalked set set address None
walk_begins set address = record {
  within = λ m h. h;
  settled = λ m h matches. inl h;
  longer = λ m h. tt;
  found = tt;
}

pub walk_ends : (set : List Network) (address : Address) (longest : Option ℕ) → IsWalked set [] address longest → IsLongestMatch set address longest
walk_ends set address None h =
    all_of (λ n. ¬ (Matches address n)) set (λ m is matches. elim (h.settled m is matches) [ inl below ↦ none_in_nil m below | inr up ↦ up ])
walk_ends set address (Some longest) h = (
  h.found,
  all_of (λ n. Matches address n → n.prefix_length ≤ longest) set (λ m is matches. elim (h.settled m is matches) [ inl none ↦ absurd (none_in_nil m none) | inr up ↦ up ]),
)

module _ (set : List Network) (address : Address) (node : Node) (is_node : IsNode node) where
  in_zero : (m : Network) → Contains node.zero m → LiesIn m (half node.prefix 0)
  in_zero m h = All-contains (λ n. LiesIn n (half node.prefix 0)) _ m is_node.zero h

  in_one : (m : Network) → Contains node.one m → LiesIn m (half node.prefix 1)
  in_one m h = All-contains (λ n. LiesIn n (half node.prefix 1)) _ m is_node.one h

  -- no network that ends here matches, or the one that does is the longest so far
  up_to_here : (longest : Option ℕ) (m : Network) → IsFrom longest node.prefix → IsUpTo longest m → m.prefix_length ≤ node.prefix.prefix_length
  up_to_here None m from up = absurd up
  up_to_here (Some longest) m from up = omega arith

  pub walk_notes : (longest : Option ℕ) → IsWalked set (networks_of node) address longest → IsTrue node.ends → Matches address node.prefix
      → IsWalked set (node.zero ++ node.one) address (Some node.prefix.prefix_length)
  walk_notes longest h ends matches =
      let here = at_here node.prefix node.zero node.one node.ends ends in
      let placed = h.within _ here in
      record {
        within = λ m is. h.within m (Contains-append_right (cond node.ends (node.prefix ∷ []) []) (node.zero ++ node.one) m is);
        settled = λ m is match. elim (h.settled m is match) [
          | inl at ↦ elim (at_cases node.prefix node.zero node.one node.ends m at) [
            | inl same ↦ inr (subst (λ (n : Network). n.prefix_length ≤ node.prefix.prefix_length) (sym same.1) (omega arith))
            | inr below ↦ elim below [ inl z ↦ inl (Contains-append_left node.zero node.one m z) | inr o ↦ inl (Contains-append_right node.zero node.one m o) ]
          ]
          | inr up ↦ inr (up_to_here longest m (h.longer _ here) up)
        ];
        longer = λ m is. elim (Contains-append_cases node.zero node.one m is) [
          | inl z ↦ let lies = in_zero m z in omega (arith, lies.longer)
          | inr o ↦ let lies = in_one m o in omega (arith, lies.longer)
        ];
        found = (placed.0, node.prefix, placed.1, placed.2, (matches, refl));
      }

  pub walk_passes : (longest : Option ℕ) → IsWalked set (networks_of node) address longest → ¬ (IsTrue node.ends × Matches address node.prefix)
      → IsWalked set (node.zero ++ node.one) address longest
  walk_passes longest h other =
      record {
        within = λ m is. h.within m (Contains-append_right (cond node.ends (node.prefix ∷ []) []) (node.zero ++ node.one) m is);
        settled = λ m is match. elim (h.settled m is match) [
          | inl at ↦ elim (at_cases node.prefix node.zero node.one node.ends m at) [
            | inl same ↦ absurd (other (same.0, subst (Matches address) same.1 match))
            | inr below ↦ elim below [ inl z ↦ inl (Contains-append_left node.zero node.one m z) | inr o ↦ inl (Contains-append_right node.zero node.one m o) ]
          ]
          | inr up ↦ inr up
        ];
        longer = λ m is. h.longer m (Contains-append_right (cond node.ends (node.prefix ∷ []) []) (node.zero ++ node.one) m is);
        found = h.found;
      }

  pub walk_zero : (longest : Option ℕ) → IsWalked set (node.zero ++ node.one) address longest → ¬ (first_bits address (node.prefix.prefix_length % width address.family + 1) % 2 ≡ 1)
      → IsWalked set node.zero address longest
  walk_zero longest h bit = record {
    within = λ m is. h.within m (Contains-append_left node.zero node.one m is);
    settled = λ m is match. elim (h.settled m is match) [
      | inl below ↦ elim (Contains-append_cases node.zero node.one m below) [
        | inl z ↦ inl z
        | inr o ↦ absurd (bit (matched_bit address m node.prefix 1 (omega arith) (in_one m o) match))
      ]
      | inr up ↦ inr up
    ];
    longer = λ m is. h.longer m (Contains-append_left node.zero node.one m is);
    found = h.found;
  }

  pub walk_one : (longest : Option ℕ) → IsWalked set (node.zero ++ node.one) address longest → first_bits address (node.prefix.prefix_length % width address.family + 1) % 2 ≡ 1
      → IsWalked set node.one address longest
  walk_one longest h bit = record {
    within = λ m is. h.within m (Contains-append_right node.zero node.one m is);
    settled = λ m is match. elim (h.settled m is match) [
      | inl below ↦ elim (Contains-append_cases node.zero node.one m below) [
        | inl z ↦ let zero_bit = matched_bit address m node.prefix 0 (omega arith) (in_zero m z) match in absurd (omega (arith, zero_bit, bit))
        | inr o ↦ inl o
      ]
      | inr up ↦ inr up
    ];
    longer = λ m is. h.longer m (Contains-append_right node.zero node.one m is);
    found = h.found;
  }

-- ---- at a trie that has a node
pub record IsAt (set : List Network) (node : Node) : Type 0 where
  pub is : set ≡ networks_of node
  pub holds : IsNode node

pub at_Some : {root : Option (Box Node Global)} {set : List Network} {node : Box Node Global} → networks root ≡ set → IsTrie root → root ≡ Some node → IsAt set node.value
at_Some view_is invariant is = record { is = sym view_is ∙ ap networks is; holds = subst IsTrie is invariant }

module _ (set : List Network) (address : Address) (node : Node) (is_node : IsNode node) (longest after : Option ℕ) where
  -- `ending`, `matched` and `measured` are the node as it was read
  pub notes : IsWalked set (networks_of node) address longest → (ending matched measured : Node) → ending ≡ node → matched ≡ node → measured ≡ node
      → IsTrue ending.ends → Matches address matched.prefix → (count : ℕ) → count ≡ measured.prefix.prefix_length → after ≡ Some count
      → IsWalked set (node.zero ++ node.one) address after
  notes h ending matched measured e m l ends matches count count_is after_is =
      let here : IsTrue node.ends = subst (λ (n : Node). IsTrue n.ends) e ends in
      let fits : Matches address node.prefix = subst (λ (n : Node). Matches address n.prefix) m matches in
      let long : after ≡ Some node.prefix.prefix_length = after_is ∙ ap (λ (k : ℕ). Some k) (count_is ∙ ap (λ (n : Node). n.prefix.prefix_length) l) in
      subst (λ (r : Option ℕ). IsWalked set (node.zero ++ node.one) address r) (sym long) (walk_notes set address node is_node longest h here fits)

  pub passes : IsWalked set (networks_of node) address longest → ¬ (IsTrue node.ends × Matches address node.prefix) → after ≡ longest
      → IsWalked set (node.zero ++ node.one) address after
  passes h other after_is =
      subst (λ (r : Option ℕ). IsWalked set (node.zero ++ node.one) address r) (sym after_is) (walk_passes set address node is_node longest h other)

  pub to_one : IsWalked set (node.zero ++ node.one) address longest → (measured next : Node) → measured ≡ node → next ≡ node
      → (index : ℕ) → index ≡ measured.prefix.prefix_length → first_bits address (index % width address.family + 1) % 2 ≡ 1 → IsWalked set next.one address longest
  to_one h measured next l n index index_is bit =
      let same : index ≡ node.prefix.prefix_length = index_is ∙ ap (λ (k : Node). k.prefix.prefix_length) l in
      subst (λ (k : Node). IsWalked set k.one address longest) (sym n)
      (walk_one set address node is_node longest h (subst (λ k. first_bits address (k % width address.family + 1) % 2 ≡ 1) same bit))

  pub to_zero : IsWalked set (node.zero ++ node.one) address longest → (measured next : Node) → measured ≡ node → next ≡ node
      → (index : ℕ) → index ≡ measured.prefix.prefix_length → ¬ (first_bits address (index % width address.family + 1) % 2 ≡ 1) → IsWalked set next.zero address longest
  to_zero h measured next l n index index_is bit =
      let same : index ≡ node.prefix.prefix_length = index_is ∙ ap (λ (k : Node). k.prefix.prefix_length) l in
      subst (λ (k : Node). IsWalked set k.zero address longest) (sym n)
      (walk_zero set address node is_node longest h (subst (λ k. ¬ (first_bits address (k % width address.family + 1) % 2 ≡ 1)) same bit))

-- ---- a node above another one
module _ (node : Node) (x common : Network) (is_node : IsNode node) (is_common : IsCommon node.prefix x common) (outside : ¬ (LiesIn x node.prefix)) where
  pub common_is_shorter : common.prefix_length < node.prefix.prefix_length
  common_is_shorter =
      let no : (node.prefix.prefix_length ≤ common.prefix_length) → ⊥ =
      λ h. outside (subst (LiesIn x) (sym (same_from_LiesIn node.prefix common is_common.one_lies h)) is_common.other_lies) in
      omega (arith, no)

  common_is_shorter_still : ¬ (common ≡ x) → common.prefix_length < x.prefix_length
  common_is_shorter_still differ =
      let no : (x.prefix_length ≤ common.prefix_length) → ⊥ = λ h. differ (sym (same_from_LiesIn x common is_common.other_lies h)) in
      omega (arith, no)

  record IsParted (bit : ℕ) (ends : Bool) (beside : List Network) : Type 0 where
    stands : IsBeside x common (networks_of node) ends beside
    below : All (λ n. LiesIn n (half common bit)) (networks_of node)
    lies : All (λ n. LiesIn n (half common (1 - bit))) beside
    needed : IsTrue ends ⊎ ((0 < length beside) × (0 < length (networks_of node)))

  parted : (bit : ℕ) → bit < 2 → node.prefix.prefix / 2 ^ (node.prefix.prefix_length - (common.prefix_length + 1)) % 2 ≡ bit
      → (ends : Bool) (beside : List Network) → (IsTrue ends → common ≡ x) → (common ≡ x → IsTrue ends) → (common ≡ x → beside ≡ []) → (¬ (common ≡ x) → beside ≡ x ∷ [])
      → IsParted bit ends beside
  parted bit small is true beside here back nothing leaf =
      let empty : beside ≡ [] = nothing (here refl) in
      record {
        stands = record {
          only = λ m h. absurd (none_in_nil m (subst (λ (l : List Network). Contains l m) empty h));
          here = here;
          got = inl refl;
        };
        below = node_lies node (half common bit) is_node (LiesIn-half node.prefix common bit is_common.one_lies common_is_shorter is);
        lies = subst (All (λ n. LiesIn n (half common (1 - bit)))) (sym empty) (all_of (λ n. LiesIn n (half common (1 - bit))) [] (λ m h. absurd (none_in_nil m h)));
        needed = inl refl;
      }
  parted bit small is false beside here back nothing leaf =
      let differ : common ≡ x → ⊥ = λ e. let t = back e in cc in
      let single : beside ≡ x ∷ [] = leaf differ in
      record {
        stands = record {
          only = λ m h. one_in_single x m (subst (λ (l : List Network). Contains l m) single h);
          here = here;
          got = inr (subst (λ (l : List Network). Contains l x) (sym single) (in_single x x refl));
        };
        below = node_lies node (half common bit) is_node (LiesIn-half node.prefix common bit is_common.one_lies common_is_shorter is);
        lies = subst (All (λ n. LiesIn n (half common (1 - bit)))) (sym single)
            (all_of (λ n. LiesIn n (half common (1 - bit))) (x ∷ []) (λ m h. subst (λ n. LiesIn n (half common (1 - bit))) (sym (one_in_single x m h))
            (other_half node.prefix x common bit is_common common_is_shorter (common_is_shorter_still differ) small is)));
        needed = inr (rw single (omega arith), some_at node.prefix node.zero node.one node.ends is_node.needed);
      }

  pub record IsAbove (after : Node) : Type 0 where
    pub holds : IsNode after
    pub inserts : Inserts (networks_of node) (x ∷ []) (networks_of after)

  pub above_node : (is_one ends : Bool) (beside : List Network) (after : Node)
      → (IsTrue is_one ↔ (node.prefix.prefix / 2 ^ (node.prefix.prefix_length - (common.prefix_length + 1)) % 2 ≡ 1))
      → (IsTrue ends → common ≡ x) → (common ≡ x → IsTrue ends) → (common ≡ x → beside ≡ []) → (¬ (common ≡ x) → beside ≡ x ∷ [])
      → after ≡ cond is_one (record { prefix = common; ends = ends; zero = beside; one = networks_of node }) (record { prefix = common; ends = ends; zero = networks_of node; one = beside })
      → IsAbove after
  above_node true ends beside after bit here back nothing leaf is =
      let p = parted 1 (omega arith) (bit.0 refl) ends beside here back nothing leaf in
      subst IsAbove (sym is) (record {
        holds = record { zero = p.lies; one = p.below; needed = p.needed };
        inserts = above_one x common (networks_of node) ends beside p.stands;
      })
  above_node false ends beside after bit here back nothing leaf is =
      let other = bit.1 in
      let zero_bit : node.prefix.prefix / 2 ^ (node.prefix.prefix_length - (common.prefix_length + 1)) % 2 ≡ 0 =
      let no : node.prefix.prefix / 2 ^ (node.prefix.prefix_length - (common.prefix_length + 1)) % 2 ≡ 1 → ⊥ = λ e. let t = other e in cc in omega (arith, no) in
      let p = parted 0 (omega arith) zero_bit ends beside here back nothing leaf in
      subst IsAbove (sym is) (record {
        holds = record { zero = p.below; one = p.lies; needed = turned ends beside p.needed };
        inserts = above_zero x common (networks_of node) ends beside p.stands;
      })
    where
      turned : (ends : Bool) (beside : List Network) → IsTrue ends ⊎ ((0 < length beside) × (0 < length (networks_of node))) → IsTrue ends ⊎ ((0 < length (networks_of node)) × (0 < length beside))
      turned ends beside (inl e) = inl e
      turned ends beside (inr both) = inr (both.1, both.0)

pub ends_here : (set : List Network) (node read compared : Node) (x : Network) → IsAt set node → read ≡ node → compared ≡ node → compared.prefix ≡ x
    → Inserts set (x ∷ []) (at_node true read.prefix read.zero read.one)
ends_here set node read compared x at e f is =
    let same : node.prefix ≡ x = sym (ap (λ (n : Node). n.prefix) f) ∙ is in
    let whole : set ≡ at_node node.ends x node.zero node.one = at.is ∙ ap (λ (p : Network). at_node node.ends p node.zero node.one) same in
    let made : Inserts set (x ∷ []) (at_node true x node.zero node.one) =
    subst (λ (s : List Network). Inserts s (x ∷ []) (at_node true x node.zero node.one)) (sym whole) (inserts_here x node.ends node.zero node.one) in
    let placed : Inserts set (x ∷ []) (at_node true node.prefix node.zero node.one) =
    subst (λ (p : Network). Inserts set (x ∷ []) (at_node true p node.zero node.one)) (sym same) made in
    subst (λ (n : Node). Inserts set (x ∷ []) (at_node true n.prefix n.zero n.one)) (sym e) placed

pub matches_as : (address : Address) (read node : Node) → read ≡ node → Matches address node.prefix → Matches address read.prefix
matches_as address read node e h = subst (λ (n : Node). Matches address n.prefix) (sym e) h

-- ---- an insert below a node
pub half_of : (x : Network) (node read : Node) → read ≡ node → LiesIn x node.prefix → ¬ (node.prefix ≡ x) → (index : ℕ) → index ≡ read.prefix.prefix_length
    → (bit : ℕ) → x.prefix / 2 ^ (x.prefix_length - (index + 1)) % 2 ≡ bit → LiesIn x (half node.prefix bit)
half_of x node read e lies differ index index_is bit is =
    let no : (x.prefix_length ≤ node.prefix.prefix_length) → ⊥ = λ h. differ (sym (same_from_LiesIn x node.prefix lies h)) in
    let same : index ≡ node.prefix.prefix_length = index_is ∙ ap (λ (n : Node). n.prefix.prefix_length) e in
    let shorter : node.prefix.prefix_length < x.prefix_length = omega (arith, no) in
    LiesIn-half x node.prefix bit lies shorter (subst (λ k. x.prefix / 2 ^ (x.prefix_length - (k + 1)) % 2 ≡ bit) same is)

pub record IsGrown {E : Type 0} (r : Result (Unit {0}) E) (set : List Network) (x : Network) (after : Node) : Type 0 where
  pub holds : IsNode after
  pub ok : OnOk r (Inserts set (x ∷ []) (networks_of after))

module _ {E : Type 0} (set : List Network) (x : Network) (node : Node) (at : IsAt set node) where
  grown_one_at : (r : Result (Unit {0}) E) (new : List Network) → LiesIn x (half node.prefix 1) → OnOk r (Inserts node.one (x ∷ []) new) → OnErr r (new ≡ node.one)
      → IsGrown r set x (record { prefix = node.prefix; ends = node.ends; zero = node.zero; one = new })
  grown_one_at (Ok u) new lies ok err = record {
    holds = record {
      zero = at.holds.zero;
      one = side_grows x node.prefix 1 node.one new ok lies at.holds.one;
      needed = elim at.holds.needed [ inl e ↦ inl e | inr both ↦ inr (both.0, more_than_none x node.one new ok) ];
    };
    ok = subst (λ (s : List Network). Inserts s (x ∷ []) (at_node node.ends node.prefix node.zero new)) (sym at.is) (inserts_one x node.prefix node.ends node.zero node.one new ok);
  }
  grown_one_at (Err e) new lies ok err = record {
    holds = subst (λ (l : List Network). IsNode (record { prefix = node.prefix; ends = node.ends; zero = node.zero; one = l })) (sym err) at.holds;
    ok = tt;
  }

  grown_zero_at : (r : Result (Unit {0}) E) (new : List Network) → LiesIn x (half node.prefix 0) → OnOk r (Inserts node.zero (x ∷ []) new) → OnErr r (new ≡ node.zero)
      → IsGrown r set x (record { prefix = node.prefix; ends = node.ends; zero = new; one = node.one })
  grown_zero_at (Ok u) new lies ok err = record {
    holds = record {
      zero = side_grows x node.prefix 0 node.zero new ok lies at.holds.zero;
      one = at.holds.one;
      needed = elim at.holds.needed [ inl e ↦ inl e | inr both ↦ inr (more_than_none x node.zero new ok, both.1) ];
    };
    ok = subst (λ (s : List Network). Inserts s (x ∷ []) (at_node node.ends node.prefix new node.one)) (sym at.is) (inserts_zero x node.prefix node.ends node.zero node.one new ok);
  }
  grown_zero_at (Err e) new lies ok err = record {
    holds = subst (λ (l : List Network). IsNode (record { prefix = node.prefix; ends = node.ends; zero = l; one = node.one })) (sym err) at.holds;
    ok = tt;
  }

  pub grown_one : (read : Node) → node ≡ read → (r : Result (Unit {0}) E) (new : List Network) → LiesIn x (half node.prefix 1) → OnOk r (Inserts read.one (x ∷ []) new) → OnErr r (new ≡ read.one)
      → IsGrown r set x (record { prefix = read.prefix; ends = read.ends; zero = read.zero; one = new })
  grown_one read e r new lies =
      subst (λ (n : Node). OnOk r (Inserts n.one (x ∷ []) new) → OnErr r (new ≡ n.one) → IsGrown r set x (record { prefix = n.prefix; ends = n.ends; zero = n.zero; one = new })) e
      (grown_one_at r new lies)

  pub grown_zero : (read : Node) → node ≡ read → (r : Result (Unit {0}) E) (new : List Network) → LiesIn x (half node.prefix 0) → OnOk r (Inserts read.zero (x ∷ []) new) → OnErr r (new ≡ read.zero)
      → IsGrown r set x (record { prefix = read.prefix; ends = read.ends; zero = new; one = read.one })
  grown_zero read e r new lies =
      subst (λ (n : Node). OnOk r (Inserts n.zero (x ∷ []) new) → OnErr r (new ≡ n.zero) → IsGrown r set x (record { prefix = n.prefix; ends = n.ends; zero = new; one = n.one })) e
      (grown_zero_at r new lies)

-- ---- what a test that fails says
pub zero_bit : (r : Bool) (n : ℕ) → (IsTrue r ↔ (n % 2 ≡ 1)) → r ≡ false → n % 2 ≡ 0
zero_bit r n h is = let no : n % 2 ≡ 1 → ⊥ = λ one. let t : r ≡ true = h.1 one in let f : false ≡ true = sym is ∙ t in absurd (cc) in omega (arith, no)

pub no_match_here : (r : Bool) (address : Address) (read node : Node) → (IsTrue r ↔ Matches address read.prefix) → r ≡ false → read ≡ node → ¬ (IsTrue node.ends × Matches address node.prefix)
no_match_here r address read node h is e = λ both.
    let t : r ≡ true = h.1 (matches_as address read node e both.1) in let f : false ≡ true = sym is ∙ t in absurd (cc)

pub no_end_here : (address : Address) (read node : Node) → read ≡ node → read.ends ≡ false → ¬ (IsTrue node.ends × Matches address node.prefix)
no_end_here address read node e is = λ both.
    let t : node.ends ≡ true = both.0 in let f : false ≡ true = sym is ∙ ap (λ (n : Node). n.ends) e ∙ t in absurd (cc)

pub attached : (node : Node) (common : Network) (ends is_one : Bool) (beside : List Network) (lent after : Node) (below : List Network)
    → lent ≡ record { prefix = common; ends = ends; zero = beside; one = [] } → below ≡ networks_of node
    → after ≡ cond is_one (record { prefix = lent.prefix; ends = lent.ends; zero = lent.zero; one = below }) (record { prefix = lent.prefix; ends = lent.ends; zero = below; one = lent.zero })
    → after ≡ cond is_one (record { prefix = common; ends = ends; zero = beside; one = networks_of node }) (record { prefix = common; ends = ends; zero = networks_of node; one = beside })
attached node common ends is_one beside lent after below l b is =
    let F : Node → List Network → Node = λ n k. cond is_one (record { prefix = n.prefix; ends = n.ends; zero = n.zero; one = k }) (record { prefix = n.prefix; ends = n.ends; zero = k; one = n.zero }) in
    is ∙ ap (λ (n : Node). F n below) l ∙ ap (λ (k : List Network). F (record { prefix = common; ends = ends; zero = beside; one = [] }) k) b
