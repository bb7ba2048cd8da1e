-- The trees that numbered nodes make.
use Rattle.std.specs.Prelude.{◌≡◌, ◌≢◌, ℕ, zero, suc, ◌+◌, ◌<◌, ◌≤◌, max, List, [], ◌∷◌, ◌++◌, length, get_or, set, nat_eq, if◌then◌else◌}
use Rattle.mem_table.specs.declared.nodes.Node.{Node}

pub data Tree : Type 0 where
  Leaf : Tree
  Fork : Tree → ℕ → Tree → Tree

abbrev pub height : Tree → ℕ
height Leaf = 0
height (Fork l p r) = max (height l) (height r) + 1

-- the numbers of its nodes, from left to right
abbrev pub places : Tree → List ℕ
places Leaf = []
places (Fork l p r) = places l ++ p ∷ places r

-- neither is more than this above the other
abbrev pub DifferByAtMost : ℕ → ℕ → ℕ → Type 0
DifferByAtMost by a b = (a ≤ b + by) × (b ≤ a + by)

-- at each node the heights of the two sides differ by one at most
abbrev pub IsBalanced : Tree → Type 0
IsBalanced Leaf = Unit {0}
IsBalanced (Fork l p r) = DifferByAtMost 1 (height l) (height r) × IsBalanced l × IsBalanced r

-- 1 for the same number, and else 0
abbrev pub one_if : ℕ → ℕ → ℕ
one_if q p = if nat_eq q p then 1 else 0

-- how often a number stands in a list
abbrev pub times : ℕ → List ℕ → ℕ
times q [] = 0
times q (p ∷ ps) = one_if q p + times q ps

-- what stands for no node
abbrev pub no_node : ℕ
no_node = 4294967295

abbrev pub node_at : List Node → ℕ → Node
node_at nodes p = get_or nodes p (record { left = 0; right = 0; height = 0 })

-- the height that is written at a node, 0 where there is none
abbrev pub height_of : List Node → ℕ → ℕ
height_of nodes p = (node_at nodes p).height

-- the tree's nodes are linked from this one on, with their heights
abbrev pub Holds : List Node → ℕ → Tree → Type 0
Holds nodes p Leaf = p ≡ no_node
Holds nodes p (Fork l q r) =
    (p ≡ q) × (p < length nodes) × (height_of nodes p ≡ height (Fork l q r))
    × Holds nodes (node_at nodes p).left l × Holds nodes (node_at nodes p).right r

-- a leaf for no height
abbrev pub fork_for : ℕ → Tree → ℕ → Tree → Tree
fork_for zero l p r = Leaf
fork_for (suc n) l p r = Fork l p r

-- the tree at a node, down to this depth
unfoldable pub tree_to : ℕ → List Node → ℕ → Tree
tree_to zero nodes p = Leaf
tree_to (suc depth) nodes p = fork_for (height_of nodes p) (tree_to depth nodes (node_at nodes p).left) p (tree_to depth nodes (node_at nodes p).right)

-- the tree at a node
unfoldable pub tree_at : List Node → ℕ → Tree
tree_at nodes p = tree_to (height_of nodes p) nodes p

-- the nodes after two trees were hung from one of them
abbrev pub joined : List Node → ℕ → ℕ → ℕ → List Node
joined nodes at left right = set nodes at (record { left = left; right = right; height = max (height_of nodes left) (height_of nodes right) + 1 })

-- these two trees may be hung from a node
pub record MayHang (nodes : List Node) (at left right : ℕ) (l r : Tree) : Type 0 where
  pub few : length nodes ≤ no_node
  pub in_range : at < length nodes
  pub holds_left : Holds nodes left l
  pub holds_right : Holds nodes right r
  pub balanced_left : IsBalanced l
  pub balanced_right : IsBalanced r
  pub apart : (q : ℕ) → times q (places l ++ at ∷ places r) ≤ 1

-- what that makes: a balanced tree of the same nodes in the same order, with all other nodes as they were
pub record IsHung (old new : List Node) (at : ℕ) (l r : Tree) (top : ℕ) (t : Tree) : Type 0 where
  pub holds : Holds new top t
  pub balanced : IsBalanced t
  pub places_are : places t ≡ places l ++ at ∷ places r
  pub not_lower : max (height l) (height r) ≤ height t
  pub one_higher : height t ≤ max (height l) (height r) + 1
  pub as_high : height l ≤ height r + 1 → height r ≤ height l + 1 → height t ≡ max (height l) (height r) + 1
  pub others : (q : ℕ) → times q (places l ++ at ∷ places r) ≡ 0 → node_at new q ≡ node_at old q

-- a tree whose first node may be taken out of it
pub record MayLoseOne (nodes : List Node) (root : ℕ) : Type 0 where
  pub few : length nodes ≤ no_node
  pub there : root ≢ no_node
  pub holds : Holds nodes root (tree_at nodes root)
  pub balanced : IsBalanced (tree_at nodes root)
  pub once : (q : ℕ) → times q (places (tree_at nodes root)) ≤ 1

-- the tree without its first node; all nodes outside it are as they were
pub record IsTaken (old new : List Node) (root least top : ℕ) : Type 0 where
  pub holds : Holds new top (tree_at new top)
  pub balanced : IsBalanced (tree_at new top)
  pub places_are : places (tree_at old root) ≡ least ∷ places (tree_at new top)
  pub not_higher : height (tree_at new top) ≤ height (tree_at old root)
  pub one_lower : height (tree_at old root) ≤ height (tree_at new top) + 1
  pub others : (q : ℕ) → times q (places (tree_at old root)) ≡ 0 → node_at new q ≡ node_at old q
