-- The first node taken out of a tree.
use Rattle.std.proofs.lemmas.Bool.Decides.{nat_tests}
use Rattle.std.proofs.lemmas.Grind.{common_steps}
use Rattle.std.proofs.Common.{◌≡◌, ◌≢◌, ℕ, ◌+◌, ◌<◌, ◌≤◌, max, List, ◌∷◌, ◌++◌, length, refl, ap, sym, ◌∙◌, arith}
use Rattle.mem_table.specs.declared.nodes.Node.{Node}
use Rattle.mem_table.specs.Shapes.{Tree, Leaf, Fork, height, places, IsBalanced, DifferByAtMost, one_if, times, no_node, node_at, height_of, Holds, tree_at, MayHang, IsHung, MayLoseOne, IsTaken}
use Rattle.mem_table.proofs.NodeLemmas.{times_fork, stored, read, stays}
use Rattle.mem_table.proofs.AddLemmas.{may_at}

-- a tree that isn't empty, at its node
pub record IsParted (nodes : List Node) (root left right : ℕ) : Type 0 where
  pub few : length nodes ≤ no_node
  pub in_range : root < length nodes
  pub tree_is : tree_at nodes root ≡ Fork (tree_at nodes left) root (tree_at nodes right)
  pub holds_left : Holds nodes left (tree_at nodes left)
  pub holds_right : Holds nodes right (tree_at nodes right)
  pub balanced : IsBalanced (Fork (tree_at nodes left) root (tree_at nodes right))
  pub times_are : (q : ℕ) → times q (places (tree_at nodes left)) + one_if q root + times q (places (tree_at nodes right)) ≤ 1
  pub height_is : height_of nodes root ≡ max (height (tree_at nodes left)) (height (tree_at nodes right)) + 1
  pub height_left : height_of nodes left ≡ height (tree_at nodes left)

parted_at : (nodes : List Node) (root : ℕ) (t : Tree) → length nodes ≤ no_node → root ≢ no_node → tree_at nodes root ≡ t → Holds nodes root t
    → IsBalanced t → ((q : ℕ) → times q (places t) ≤ 1)
    → IsParted nodes root (node_at nodes root).left (node_at nodes root).right
parted_at nodes root Leaf few there is h balanced once = absurd (there h)
parted_at nodes root (Fork l q r) few there is h balanced once =
    let left : ℕ = (node_at nodes root).left in
    let right : ℕ = (node_at nodes root).right in
    let left_is : tree_at nodes left ≡ l = read nodes left l few h.3 in
    let right_is : tree_at nodes right ≡ r = read nodes right r few h.4 in
    record {
      few = few;
      in_range = h.1;
      tree_is = rw (is, left_is, right_is, h.0) refl;
      holds_left = rw left_is h.3;
      holds_right = rw right_is h.4;
      balanced = rw (left_is, right_is) balanced;
      times_are = λ p. omega (
        arith,
        once p,
        times_fork p (places l) (places r) q,
        ap (λ (t : Tree). times p (places t)) left_is,
        ap (λ (t : Tree). times p (places t)) right_is,
        ap (λ k. one_if p k) h.0,
      );
      height_is = rw (left_is, right_is) h.2;
      height_left = rw left_is (stored nodes left l few h.3);
    }

pub parted : (nodes : List Node) (root : ℕ) → MayLoseOne nodes root → IsParted nodes root (node_at nodes root).left (node_at nodes root).right
parted nodes root may = parted_at nodes root (tree_at nodes root) may.few may.there refl may.holds may.balanced may.once

module _ (nodes : List Node) (root left right : ℕ) (fork : IsParted nodes root left right) where
  -- nothing is on the left, so it is the first itself
  pub taken_here : left ≡ no_node → IsTaken nodes nodes root root right
  taken_here is =
      let bare : tree_at nodes left ≡ Leaf = read nodes left Leaf fork.few is in
      let whole : tree_at nodes root ≡ Fork Leaf root (tree_at nodes right) = fork.tree_is
      ∙ ap (λ (t : Tree). Fork t root (tree_at nodes right)) bare in
      record {
        holds = fork.holds_right;
        balanced = fork.balanced.2;
        places_are = ap places whole;
        not_higher = omega (arith, ap height whole);
        one_lower = omega (arith, ap height whole);
        others = λ q none. refl;
      }

  pub may_lose : left ≢ no_node → MayLoseOne nodes left
  may_lose there = record {
    few = fork.few;
    there = there;
    holds = fork.holds_left;
    balanced = fork.balanced.1;
    once =
        λ q. omega (arith, fork.times_are q);
  }

  pub lower_left : height_of nodes left < height_of nodes root
  lower_left = omega (arith, fork.height_left, fork.height_is)

  -- the first on the left
  module _ (mid : List Node) (least below : ℕ) (len : length mid ≡ length nodes) (taken : IsTaken nodes mid left least below) where
    held_right : Holds mid right (tree_at nodes right)
    held_right = stays nodes mid right (tree_at nodes right) (omega arith) (λ q one. taken.others q (omega (arith, fork.times_are q)))
        fork.holds_right

    right_is : tree_at mid right ≡ tree_at nodes right
    right_is = read mid right (tree_at nodes right) (omega (arith, fork.few)) held_right

    fewer : (q : ℕ) → times q (places (tree_at nodes left)) ≡ one_if q least + times q (places (tree_at mid below))
    fewer q = ap (times q) taken.places_are

    pub may_left : MayHang mid root below right (tree_at mid below) (tree_at mid right)
    may_left =
        may_at mid root below right (omega (arith, fork.few)) (omega (arith, fork.in_range)) taken.holds (rw right_is held_right) taken.balanced
        (rw right_is fork.balanced.2)
        (λ q. omega (arith, fewer q, ap (λ (t : Tree). times q (places t)) right_is, fork.times_are q))

    heights : (height_of mid below ≡ height (tree_at mid below)) × (height_of mid right ≡ height (tree_at nodes right))
    heights = (stored mid below (tree_at mid below) may_left.few taken.holds, stored mid right (tree_at nodes right) may_left.few held_right)

    pub differ_left : DifferByAtMost 2 (height_of mid below) (height_of mid right)
    differ_left =
        let near : DifferByAtMost 1 (height (tree_at nodes left)) (height (tree_at nodes right)) = fork.balanced.0 in
        (omega (arith, heights.0, heights.1, taken.not_higher, near.0), omega (arith, heights.0, heights.1, taken.one_lower, near.1))

    pub low_left : (n : ℕ) → height_of nodes root < n → max (height_of mid below) (height_of mid right) + 1 < n
    low_left n low = omega (arith, heights.0, heights.1, taken.not_higher, fork.height_is)

    pub taken_left : (after : List Node) (top : ℕ) → IsHung mid after root (tree_at mid below) (tree_at mid right) top (tree_at after top)
        → IsTaken nodes after root least top
    taken_left after top hung =
        let near : DifferByAtMost 1 (height (tree_at nodes left)) (height (tree_at nodes right)) = fork.balanced.0 in
        let right_high : height (tree_at mid right) ≡ height (tree_at nodes right) = ap height right_is in
        let whole : height (tree_at nodes root) ≡ max (height (tree_at nodes left)) (height (tree_at nodes right)) + 1 = ap height fork.tree_is in
        record {
          holds = hung.holds;
          balanced = hung.balanced;
          places_are =
              ap places fork.tree_is ∙ ap (λ (ps : List ℕ). ps ++ root ∷ places (tree_at nodes right)) taken.places_are
              ∙ ap (λ (t : Tree). least ∷ (places (tree_at mid below) ++ root ∷ places t)) (sym right_is)
              ∙ ap (λ (ps : List ℕ). least ∷ ps) (sym hung.places_are);
          not_higher = omega (arith, near.0, near.1, right_high, whole, hung.one_higher, taken.not_higher, taken.one_lower);
          one_lower = grind (arith, common_steps, nat_tests);
          others = λ q none.
              let split : times q (places (tree_at nodes root)) ≡ times q (places (tree_at nodes left)) + one_if q root + times q
              (places (tree_at nodes right)) =
              ap (λ (t : Tree). times q (places t)) fork.tree_is ∙ times_fork q (places (tree_at nodes left)) (places (tree_at nodes right)) root in
              let same = ap (λ (t : Tree). times q (places t)) right_is in
              hung.others q (omega (arith, fewer q, same, times_fork q (places (tree_at mid below)) (places (tree_at mid right)) root))
              ∙ taken.others q (omega arith);
        }
