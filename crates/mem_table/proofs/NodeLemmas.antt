-- Trees of numbered nodes: how they are read, and what a changed node leaves of them.
use Rattle.std.proofs.lemmas.Bool.Decides.{nat_tests}
use Rattle.std.proofs.lemmas.Grind.{common_steps}
use Rattle.std.proofs.Common.{◌≡◌, ◌≢◌, ℕ, zero, suc, ◌+◌, ◌<◌, ◌≤◌, List, [], ◌∷◌, ◌++◌, length, cond, refl, ap, arith}
use Rattle.std.proofs.lemmas.List.{length-set, get_or-set_other, get_or_past}
use Rattle.std.proofs.lemmas.Bool.{eq-eqb, ne_eqb}
use Rattle.mem_table.specs.declared.nodes.Node.{Node}
use Rattle.mem_table.specs.Shapes.{Tree, Leaf, Fork, height, places, times, one_if, no_node, node_at, height_of, Holds, tree_to, tree_at, joined}

-- ---- how often a place stands in a list

pub times-append : (q : ℕ) (xs ys : List ℕ) → times q (xs ++ ys) ≡ times q xs + times q ys
times-append q [] ys = omega arith
times-append q (x ∷ xs) ys = omega (arith, times-append q xs ys)

pub times_fork : (q : ℕ) (xs ys : List ℕ) (p : ℕ) → times q (xs ++ p ∷ ys) ≡ times q xs + one_if q p + times q ys
times_fork q xs ys p = omega (arith, times-append q xs (p ∷ ys))

pub one_if_same : (q p : ℕ) → q ≡ p → one_if q p ≡ 1
one_if_same q p is = ap (λ b. cond b 1 0) (eq-eqb q p is)

pub differs_if_none : (q p : ℕ) → one_if q p ≡ 0 → q ≢ p
differs_if_none q p none is = absurd (omega (arith, one_if_same q p is))

pub none_if_differs : (q p : ℕ) → q ≢ p → one_if q p ≡ 0
none_if_differs q p differs = ap (λ b. cond b 1 0) (ne_eqb q p differs)

-- ---- how a tree is read

pub no_height : (nodes : List Node) (p : ℕ) → p ≡ no_node → length nodes ≤ no_node → height_of nodes p ≡ 0
no_height nodes p is few = ap (λ (n : Node). n.height) (get_or_past nodes p _ (omega arith))

pub stored : (nodes : List Node) (p : ℕ) (t : Tree) → length nodes ≤ no_node → Holds nodes p t → height_of nodes p ≡ height t
stored nodes p Leaf few h = no_height nodes p h few
stored nodes p (Fork l q r) few h = h.2

pub read_to : (nodes : List Node) (p : ℕ) (t : Tree) (depth : ℕ) → length nodes ≤ no_node → Holds nodes p t → height t ≤ depth → tree_to depth nodes p ≡ t
unfolding tree_to
read_to nodes p Leaf zero few h low = refl
read_to nodes p Leaf (suc depth) few h low = grind (arith, common_steps, nat_tests)
read_to nodes p (Fork l q r) zero few h low = absurd (omega arith)
read_to nodes p (Fork l q r) (suc depth) few h low = grind (arith, common_steps, nat_tests, read_to nodes (node_at nodes p).left l depth few h.3 (omega arith), read_to nodes (node_at nodes p).right r depth few h.4 (omega arith))

pub read : (nodes : List Node) (p : ℕ) (t : Tree) → length nodes ≤ no_node → Holds nodes p t → tree_at nodes p ≡ t
unfolding tree_at
read nodes p t few h = read_to nodes p t (height_of nodes p) few h (omega (arith, stored nodes p t few h))

-- ---- a node that is changed

-- a tree stays where none of its nodes changes
pub stays : (old new : List Node) (p : ℕ) (t : Tree) → length old ≤ length new → ((q : ℕ) → 1 ≤ times q (places t) → node_at new q ≡ node_at old q) → Holds old p t → Holds new p t
stays old new p Leaf len same h = h
stays old new p (Fork l q r) len same h = grind (arith, common_steps, nat_tests, stays old new (node_at old p).left l len (λ k one. same k (omega (arith, times_fork k (places l) (places r) q))) h.3, stays old new (node_at old p).right r len (λ k one. same k (omega (arith, times_fork k (places l) (places r) q))) h.4, times_fork, one_if_same)

pub joined_other : (nodes : List Node) (at left right q : ℕ) → q ≢ at → node_at (joined nodes at left right) q ≡ node_at nodes q
joined_other nodes at left right q differs = get_or-set_other nodes at q _ _ differs

pub length-joined : (nodes : List Node) (at left right : ℕ) → length (joined nodes at left right) ≡ length nodes
length-joined nodes at left right = length-set nodes at _

pub keep : (nodes : List Node) (at left right p : ℕ) (t : Tree) → times at (places t) ≡ 0 → Holds nodes p t → Holds (joined nodes at left right) p t
keep nodes at left right p t apart h = grind (arith, common_steps, nat_tests, stays, length-joined, joined_other)

pub hang : (nodes : List Node) (at left right : ℕ) (l r : Tree) → length nodes ≤ no_node → at < length nodes → times at (places l) ≡ 0 → times at (places r) ≡ 0
    → Holds nodes left l → Holds nodes right r → Holds (joined nodes at left right) at (Fork l at r)
hang nodes at left right l r few within apart_l apart_r hl hr = grind (arith, common_steps, nat_tests, length-joined, stored, keep)
