-- What turning two trees at their node makes.
use Rattle.std.proofs.lemmas.Bool.Decides.{nat_tests}
use Rattle.std.proofs.lemmas.Grind.{common_steps}
use Rattle.std.proofs.Common.{◌≡◌, ℕ, ◌+◌, ◌<◌, ◌≤◌, max, List, ◌∷◌, ◌++◌, length, refl, ap, sym, subst, ◌∙◌, append_assoc, arith}
use Rattle.mem_table.specs.declared.nodes.Node.{Node}
use Rattle.mem_table.specs.Shapes.{Tree, Leaf, Fork, height, places, DifferByAtMost, times, one_if, no_node, node_at, height_of, Holds, tree_at, joined, MayHang, IsHung}
use Rattle.mem_table.proofs.NodeLemmas.{times_fork, one_if_same, differs_if_none, stored, read, joined_other, length-joined, keep, hang}

-- a tree that is there is the one that is read
pub hung : (old new : List Node) (at : ℕ) (l r : Tree) (top : ℕ) (t : Tree) → length new ≤ no_node → IsHung old new at l r top t → IsHung old new at l r top (tree_at new top)
hung old new at l r top t few is = subst (λ (u : Tree). IsHung old new at l r top u) (sym (read new top t few is.holds)) is

spread_left : (q : ℕ) (x y z : List ℕ) (j at : ℕ) → times q ((x ++ j ∷ y) ++ at ∷ z) ≡ times q x + one_if q j + times q y + one_if q at + times q z
spread_left q x y z j at = omega (arith, times_fork q (x ++ j ∷ y) z at, times_fork q x y j)

spread_right : (q : ℕ) (x y z : List ℕ) (j at : ℕ) → times q (z ++ at ∷ (y ++ j ∷ x)) ≡ times q z + one_if q at + times q y + one_if q j + times q x
spread_right q x y z j at = omega (arith, times_fork q z (y ++ j ∷ x) at, times_fork q y x j)

-- ---- the plain case

pub hung_plain : (nodes : List Node) (at left right : ℕ) (l r : Tree) → MayHang nodes at left right l r → DifferByAtMost 1 (height_of nodes left) (height_of nodes right)
    → IsHung nodes (joined nodes at left right) at l r at (tree_at (joined nodes at left right) at)
hung_plain nodes at left right l r may differ =
    let sl : height_of nodes left ≡ height l = stored nodes left l may.few may.holds_left in
    let sr : height_of nodes right ≡ height r = stored nodes right r may.few may.holds_right in
    let here : times at (places l) + one_if at at + times at (places r) ≤ 1 = omega (arith, times_fork at (places l) (places r) at, may.apart at) in
    let one : one_if at at ≡ 1 = one_if_same at at refl in
    hung nodes (joined nodes at left right) at l r at (Fork l at r) (omega (arith, length-joined nodes at left right, may.few)) (record {
      holds = hang nodes at left right l r may.few may.in_range (omega arith) (omega arith) may.holds_left may.holds_right;
      balanced = ((omega (arith, differ.0), omega (arith, differ.1)), may.balanced_left, may.balanced_right);
      places_are = refl;
      not_lower = omega arith;
      one_higher = omega arith;
      as_high = λ low high. refl;
      others = λ q none. joined_other nodes at left right q (differs_if_none q at (omega (arith, times_fork q (places l) (places r) at)));
    })

-- ---- two forks, and both from a third node

module _ (nodes : List Node) (one a b two c d top : ℕ) (s t u v : Tree) (few : length nodes ≤ no_node) (in_one : one < length nodes) (in_two : two < length nodes) (in_top : top < length nodes)
    (hs : Holds nodes a s) (ht : Holds nodes b t) (hu : Holds nodes c u) (hv : Holds nodes d v) (apart : (q : ℕ) → times q (places (Fork (Fork s one t) top (Fork u two v))) ≤ 1) where
  abbrev first : List Node
  first = joined nodes one a b

  abbrev second : List Node
  second = joined first two c d

  abbrev third : List Node
  third = joined second top one two

  parts : (q : ℕ) → times q (places (Fork (Fork s one t) top (Fork u two v))) ≡ times q (places (Fork s one t)) + one_if q top + times q (places (Fork u two v))
  parts q = times_fork q (places (Fork s one t)) (places (Fork u two v)) top

  all_parts : (q : ℕ) → times q (places s) + one_if q one + times q (places t) + one_if q top + (times q (places u) + one_if q two + times q (places v)) ≤ 1
  all_parts q = omega (arith, apart q, parts q, times_fork q (places s) (places t) one, times_fork q (places u) (places v) two)

  few_second : length second ≤ no_node
  few_second = omega (arith, length-joined nodes one a b, length-joined first two c d)

  pub few_three : length third ≤ no_node
  few_three = omega (arith, few_second, length-joined second top one two)

  held_one : Holds first one (Fork s one t)
  held_one = hang nodes one a b s t few in_one (omega (arith, all_parts one, one_if_same one one refl)) (omega (arith, all_parts one, one_if_same one one refl)) hs ht

  held_c : Holds first c u
  held_c = keep nodes one a b c u (omega (arith, all_parts one, one_if_same one one refl)) hu

  held_d : Holds first d v
  held_d = keep nodes one a b d v (omega (arith, all_parts one, one_if_same one one refl)) hv

  held_two : Holds second two (Fork u two v)
  held_two =
      hang first two c d u v (omega (arith, length-joined nodes one a b)) (omega (arith, length-joined nodes one a b))
      (omega (arith, all_parts two, one_if_same two two refl)) (omega (arith, all_parts two, one_if_same two two refl)) held_c held_d

  held_both : Holds second one (Fork s one t)
  held_both = keep first two c d one (Fork s one t) (omega (arith, parts two, apart two, times_fork two (places u) (places v) two, one_if_same two two refl)) held_one

  pub held_three : Holds third top (Fork (Fork s one t) top (Fork u two v))
  held_three =
      hang second top one two (Fork s one t) (Fork u two v) few_second (omega (arith, length-joined nodes one a b, length-joined first two c d))
      (omega (arith, parts top, apart top, one_if_same top top refl)) (omega (arith, parts top, apart top, one_if_same top top refl)) held_both held_two

  pub heights_three : (height_of first c ≡ height u) × (height_of first d ≡ height v) × (height_of second one ≡ max (height s) (height t) + 1) × (height_of second two ≡ max (height u) (height v) + 1)
  heights_three =
      let few_first : length first ≤ no_node = omega (arith, length-joined nodes one a b) in
      (stored first c u few_first held_c, stored first d v few_first held_d, stored second one (Fork s one t) few_second held_both, stored second two (Fork u two v) few_second held_two)

  pub others_three : (q : ℕ) → times q (places (Fork (Fork s one t) top (Fork u two v))) ≡ 0 → node_at third q ≡ node_at nodes q
  others_three q none =
      let outer = parts q in
      joined_other second top one two q (differs_if_none q top (omega arith))
      ∙ joined_other first two c d q (differs_if_none q two (omega (arith, times_fork q (places u) (places v) two)))
      ∙ joined_other nodes one a b q (differs_if_none q one (omega (arith, times_fork q (places s) (places t) one)))

-- ---- the left tree is two levels higher

-- its left side isn't lower than its right one: the heights leave room, and this is what two joins make
pub record IsTurnedRight (n : ℕ) (nodes : List Node) (at left right outer inner : ℕ) (l r : Tree) : Type 0 where
  pub low_first : max (height_of nodes inner) (height_of nodes right) + 1 < n
  pub low_second : max (height_of (joined nodes at inner right) outer) (height_of (joined nodes at inner right) at) + 1 < n
  pub hung_so : IsHung nodes (joined (joined nodes at inner right) left outer at) at l r left (tree_at (joined (joined nodes at inner right) left outer at) left)

pub turned_right : (n : ℕ) (nodes : List Node) (at left right : ℕ) (l r : Tree) → MayHang nodes at left right l r → height_of nodes left ≡ height_of nodes right + 2
    → height_of nodes left + 1 < n → height_of nodes (node_at nodes left).right ≤ height_of nodes (node_at nodes left).left
    → IsTurnedRight n nodes at left right (node_at nodes left).left (node_at nodes left).right l r
turned_right n nodes at left right Leaf r may higher low leans = absurd (omega (arith, stored nodes left Leaf may.few may.holds_left))
turned_right n nodes at left right (Fork x j y) z may higher low leans =
    let outer : ℕ = (node_at nodes left).left in
    let inner : ℕ = (node_at nodes left).right in
    let first : List Node = joined nodes at inner right in
    let h = may.holds_left in
    let sx : height_of nodes outer ≡ height x = stored nodes outer x may.few h.3 in
    let sy : height_of nodes inner ≡ height y = stored nodes inner y may.few h.4 in
    let sz : height_of nodes right ≡ height z = stored nodes right z may.few may.holds_right in
    let sl : height_of nodes left ≡ max (height x) (height y) + 1 = h.2 in
    let close_1 : height x ≤ height y + 1 = may.balanced_left.0.0 in
    let close_2 : height y ≤ height x + 1 = may.balanced_left.0.1 in
    let at_once : times at (places x) + one_if at j + times at (places y) + one_if at at + times at (places z) ≤ 1 = omega (arith, spread_left at (places x) (places y) (places z) j at, may.apart at) in
    let at_one : one_if at at ≡ 1 = one_if_same at at refl in
    let top_once : times left (places x) + one_if left j + times left (places y) + one_if left at + times left (places z) ≤ 1 = omega (arith, spread_left left (places x) (places y) (places z) j at, may.apart left) in
    let top_one : one_if left j ≡ 1 = one_if_same left j h.0 in
    let len_first : length first ≡ length nodes = length-joined nodes at inner right in
    let h_first : Holds first at (Fork y at z) = hang nodes at inner right y z may.few may.in_range (omega arith) (omega arith) h.4 may.holds_right in
    let x_first : Holds first outer x = keep nodes at inner right outer x (omega arith) h.3 in
    let s_outer : height_of first outer ≡ height x = stored first outer x (omega (arith, may.few)) x_first in
    let s_at : height_of first at ≡ max (height y) (height z) + 1 = stored first at (Fork y at z) (omega (arith, may.few)) h_first in
    record {
      low_first = omega arith;
      low_second = omega arith;
      hung_so = hung nodes (joined first left outer at) at (Fork x j y) z left (Fork x left (Fork y at z)) (omega (arith, length-joined first left outer at, may.few)) (record {
        holds = hang first left outer at x (Fork y at z) (omega (arith, may.few)) (omega (arith, h.1)) (omega arith) (omega (arith, times_fork left (places y) (places z) at)) x_first h_first;
        balanced = ((omega arith, omega arith), may.balanced_left.1, ((omega arith, omega arith), may.balanced_left.2, may.balanced_right));
        places_are = ap (λ k. places x ++ k ∷ (places y ++ at ∷ places z)) h.0 ∙ sym (append_assoc (places x) (j ∷ places y) (at ∷ places z));
        not_lower = omega arith;
        one_higher = omega arith;
        as_high = λ near far. absurd (omega arith);
        others = λ q none.
            let parts = spread_left q (places x) (places y) (places z) j at in
            joined_other first left outer at q (λ is. differs_if_none q j (omega arith) (is ∙ h.0))
            ∙ joined_other nodes at inner right q (differs_if_none q at (omega arith));
      });
    }

-- its right side is higher than its left one
pub record IsTurnedOver (n : ℕ) (nodes : List Node) (at left right outer inner below above : ℕ) (l r : Tree) : Type 0 where
  pub inner_in : inner < length nodes
  pub low_first : max (height_of nodes outer) (height_of nodes below) + 1 < n
  pub low_second : max (height_of (joined nodes left outer below) above) (height_of (joined nodes left outer below) right) + 1 < n
  pub low_third :
      max (height_of (joined (joined nodes left outer below) at above right) left) (height_of (joined (joined nodes left outer below) at above right) at) + 1 < n
  pub hung_so :
      IsHung nodes (joined (joined (joined nodes left outer below) at above right) inner left at) at l r inner
      (tree_at (joined (joined (joined nodes left outer below) at above right) inner left at) inner)

module _ (n : ℕ) (nodes : List Node) (at left right : ℕ) (x u v z : Tree) (j i : ℕ) (may : MayHang nodes at left right (Fork x j (Fork u i v)) z) (higher : height_of nodes left ≡ height_of nodes right + 2)
    (low : height_of nodes left + 1 < n) (leans : height_of nodes (node_at nodes left).left < height_of nodes (node_at nodes left).right) where
  abbrev inner : ℕ
  inner = (node_at nodes left).right

  abbrev over : Tree
  over = Fork (Fork x left u) inner (Fork v at z)

  over_order : places over ≡ places (Fork x j (Fork u i v)) ++ at ∷ places z
  over_order = grind (arith, common_steps, nat_tests)

  over_sizes : (height_of nodes (node_at nodes left).left ≡ height x) × (height_of nodes (node_at nodes inner).left ≡ height u) × (height_of nodes (node_at nodes inner).right ≡ height v) × (height_of nodes right ≡ height z)
  over_sizes = (stored nodes _ x may.few may.holds_left.3, stored nodes _ u may.few may.holds_left.4.3, stored nodes _ v may.few may.holds_left.4.4, stored nodes right z may.few may.holds_right)

  over_shape : (height x ≡ max (height u) (height v)) × (height z ≡ max (height u) (height v)) × (height u ≤ height v + 1) × (height v ≤ height u + 1) × (height_of nodes left ≡ max (height u) (height v) + 2)
  over_shape = grind (arith, common_steps, nat_tests, over_sizes)

  over_inner : IsTurnedOver n nodes at left right (node_at nodes left).left inner (node_at nodes inner).left (node_at nodes inner).right (Fork x j (Fork u i v)) z
  over_inner =
      let h = may.holds_left in
      let apart = λ (q : ℕ). subst (λ (ps : List ℕ). times q ps ≤ 1) (sym over_order) (may.apart q) in
      let high = heights_three nodes left _ _ at _ right inner x u v z may.few h.1 may.in_range h.4.1 h.3 h.4.3 h.4.4 may.holds_right apart in
      record {
        inner_in = h.4.1;
        low_first = grind (arith, common_steps, nat_tests, over_sizes, over_shape);
        low_second = grind (arith, common_steps, nat_tests, over_shape);
        low_third = grind (arith, common_steps, nat_tests, over_shape);
        hung_so = hung nodes _ at (Fork x j (Fork u i v)) z inner over (few_three nodes left _ _ at _ right inner x u v z may.few h.1 may.in_range h.4.1 h.3 h.4.3 h.4.4 may.holds_right apart) (record {
          holds = held_three nodes left _ _ at _ right inner x u v z may.few h.1 may.in_range h.4.1 h.3 h.4.3 h.4.4 may.holds_right apart;
          balanced = grind (arith, common_steps, nat_tests, over_shape);
          places_are = over_order;
          not_lower = grind (arith, common_steps, nat_tests, over_shape);
          one_higher = grind (arith, common_steps, nat_tests, over_shape);
          as_high = grind (arith, common_steps, nat_tests, over_shape);
          others = λ q none. others_three nodes left _ _ at _ right inner x u v z may.few h.1 may.in_range h.4.1 h.3 h.4.3 h.4.4 may.holds_right apart q (subst (λ (ps : List ℕ). times q ps ≡ 0) (sym over_order) none);
        });
      }

pub turned_over : (n : ℕ) (nodes : List Node) (at left right : ℕ) (l r : Tree) → MayHang nodes at left right l r → height_of nodes left ≡ height_of nodes right + 2
    → height_of nodes left + 1 < n → height_of nodes (node_at nodes left).left < height_of nodes (node_at nodes left).right
    → IsTurnedOver n nodes at left right (node_at nodes left).left (node_at nodes left).right (node_at nodes (node_at nodes left).right).left (node_at nodes (node_at nodes left).right).right l r
turned_over n nodes at left right Leaf r may higher low leans = absurd (omega (arith, stored nodes left Leaf may.few may.holds_left))
turned_over n nodes at left right (Fork x j Leaf) z may higher low leans = absurd (omega (arith, stored nodes (node_at nodes left).right Leaf may.few may.holds_left.4))
turned_over n nodes at left right (Fork x j (Fork u i v)) z may higher low leans = over_inner n nodes at left right x u v z j i may higher low leans

-- ---- the right tree is two levels higher

-- its right side isn't lower than its left one
pub record IsTurnedLeft (n : ℕ) (nodes : List Node) (at left right inner outer : ℕ) (l r : Tree) : Type 0 where
  pub low_first : max (height_of nodes left) (height_of nodes inner) + 1 < n
  pub low_second : max (height_of (joined nodes at left inner) at) (height_of (joined nodes at left inner) outer) + 1 < n
  pub hung_so : IsHung nodes (joined (joined nodes at left inner) right at outer) at l r right (tree_at (joined (joined nodes at left inner) right at outer) right)

pub turned_left : (n : ℕ) (nodes : List Node) (at left right : ℕ) (l r : Tree) → MayHang nodes at left right l r → height_of nodes right ≡ height_of nodes left + 2
    → height_of nodes right + 1 < n → height_of nodes (node_at nodes right).left ≤ height_of nodes (node_at nodes right).right
    → IsTurnedLeft n nodes at left right (node_at nodes right).left (node_at nodes right).right l r
turned_left n nodes at left right l Leaf may higher low leans = absurd (omega (arith, stored nodes right Leaf may.few may.holds_right))
turned_left n nodes at left right z (Fork y j x) may higher low leans =
    let inner : ℕ = (node_at nodes right).left in
    let outer : ℕ = (node_at nodes right).right in
    let first : List Node = joined nodes at left inner in
    let h = may.holds_right in
    let sx : height_of nodes outer ≡ height x = stored nodes outer x may.few h.4 in
    let sy : height_of nodes inner ≡ height y = stored nodes inner y may.few h.3 in
    let sz : height_of nodes left ≡ height z = stored nodes left z may.few may.holds_left in
    let sr : height_of nodes right ≡ max (height y) (height x) + 1 = h.2 in
    let close_1 : height y ≤ height x + 1 = may.balanced_right.0.0 in
    let close_2 : height x ≤ height y + 1 = may.balanced_right.0.1 in
    let at_once : times at (places z) + one_if at at + times at (places y) + one_if at j + times at (places x) ≤ 1 = omega (arith, spread_right at (places x) (places y) (places z) j at, may.apart at) in
    let at_one : one_if at at ≡ 1 = one_if_same at at refl in
    let top_once : times right (places z) + one_if right at + times right (places y) + one_if right j + times right (places x) ≤ 1 = omega (arith, spread_right right (places x) (places y) (places z) j at, may.apart right) in
    let top_one : one_if right j ≡ 1 = one_if_same right j h.0 in
    let len_first : length first ≡ length nodes = length-joined nodes at left inner in
    let h_first : Holds first at (Fork z at y) = hang nodes at left inner z y may.few may.in_range (omega arith) (omega arith) may.holds_left h.3 in
    let x_first : Holds first outer x = keep nodes at left inner outer x (omega arith) h.4 in
    let s_outer : height_of first outer ≡ height x = stored first outer x (omega (arith, may.few)) x_first in
    let s_at : height_of first at ≡ max (height z) (height y) + 1 = stored first at (Fork z at y) (omega (arith, may.few)) h_first in
    record {
      low_first = omega arith;
      low_second = omega arith;
      hung_so = hung nodes (joined first right at outer) at z (Fork y j x) right (Fork (Fork z at y) right x) (omega (arith, length-joined first right at outer, may.few)) (record {
        holds = hang first right at outer (Fork z at y) x (omega (arith, may.few)) (omega (arith, h.1)) (omega (arith, times_fork right (places z) (places y) at)) (omega arith) h_first x_first;
        balanced = ((omega arith, omega arith), ((omega arith, omega arith), may.balanced_left, may.balanced_right.1), may.balanced_right.2);
        places_are = ap (λ k. (places z ++ at ∷ places y) ++ k ∷ places x) h.0 ∙ append_assoc (places z) (at ∷ places y) (j ∷ places x);
        not_lower = omega arith;
        one_higher = omega arith;
        as_high = λ near far. absurd (omega arith);
        others = λ q none.
            let parts = spread_right q (places x) (places y) (places z) j at in
            joined_other first right at outer q (λ is. differs_if_none q j (omega arith) (is ∙ h.0))
            ∙ joined_other nodes at left inner q (differs_if_none q at (omega arith));
      });
    }

-- its left side is higher than its right one
pub record IsTurnedUnder (n : ℕ) (nodes : List Node) (at left right inner outer below above : ℕ) (l r : Tree) : Type 0 where
  pub inner_in : inner < length nodes
  pub low_first : max (height_of nodes left) (height_of nodes below) + 1 < n
  pub low_second : max (height_of (joined nodes at left below) above) (height_of (joined nodes at left below) outer) + 1 < n
  pub low_third :
      max (height_of (joined (joined nodes at left below) right above outer) at) (height_of (joined (joined nodes at left below) right above outer) right) + 1 < n
  pub hung_so :
      IsHung nodes (joined (joined (joined nodes at left below) right above outer) inner at right) at l r inner
      (tree_at (joined (joined (joined nodes at left below) right above outer) inner at right) inner)

module _ (n : ℕ) (nodes : List Node) (at left right : ℕ) (z u v x : Tree) (i j : ℕ) (may : MayHang nodes at left right z (Fork (Fork u i v) j x)) (higher : height_of nodes right ≡ height_of nodes left + 2)
    (low : height_of nodes right + 1 < n) (leans : height_of nodes (node_at nodes right).right < height_of nodes (node_at nodes right).left) where
  abbrev inmost : ℕ
  inmost = (node_at nodes right).left

  abbrev under : Tree
  under = Fork (Fork z at u) inmost (Fork v right x)

  under_order : places under ≡ places z ++ at ∷ places (Fork (Fork u i v) j x)
  under_order = grind (arith, common_steps, nat_tests)

  under_sizes : (height_of nodes (node_at nodes right).right ≡ height x) × (height_of nodes (node_at nodes inmost).left ≡ height u) × (height_of nodes (node_at nodes inmost).right ≡ height v) × (height_of nodes left ≡ height z)
  under_sizes = (stored nodes _ x may.few may.holds_right.4, stored nodes _ u may.few may.holds_right.3.3, stored nodes _ v may.few may.holds_right.3.4, stored nodes left z may.few may.holds_left)

  under_shape : (height x ≡ max (height u) (height v)) × (height z ≡ max (height u) (height v)) × (height u ≤ height v + 1) × (height v ≤ height u + 1) × (height_of nodes right ≡ max (height u) (height v) + 2)
  under_shape = grind (arith, common_steps, nat_tests, under_sizes)

  under_inner : IsTurnedUnder n nodes at left right inmost (node_at nodes right).right (node_at nodes inmost).left (node_at nodes inmost).right z (Fork (Fork u i v) j x)
  under_inner =
      let h = may.holds_right in
      let apart = λ (q : ℕ). subst (λ (ps : List ℕ). times q ps ≤ 1) (sym under_order) (may.apart q) in
      let high = heights_three nodes at left _ right _ _ inmost z u v x may.few may.in_range h.1 h.3.1 may.holds_left h.3.3 h.3.4 h.4 apart in
      record {
        inner_in = h.3.1;
        low_first = grind (arith, common_steps, nat_tests, under_sizes, under_shape);
        low_second = grind (arith, common_steps, nat_tests, under_shape);
        low_third = grind (arith, common_steps, nat_tests, under_shape);
        hung_so = hung nodes _ at z (Fork (Fork u i v) j x) inmost under (few_three nodes at left _ right _ _ inmost z u v x may.few may.in_range h.1 h.3.1 may.holds_left h.3.3 h.3.4 h.4 apart) (record {
          holds = held_three nodes at left _ right _ _ inmost z u v x may.few may.in_range h.1 h.3.1 may.holds_left h.3.3 h.3.4 h.4 apart;
          balanced = grind (arith, common_steps, nat_tests, under_shape);
          places_are = under_order;
          not_lower = grind (arith, common_steps, nat_tests, under_shape);
          one_higher = grind (arith, common_steps, nat_tests, under_shape);
          as_high = grind (arith, common_steps, nat_tests, under_shape);
          others = λ q none. others_three nodes at left _ right _ _ inmost z u v x may.few may.in_range h.1 h.3.1 may.holds_left h.3.3 h.3.4 h.4 apart q (subst (λ (ps : List ℕ). times q ps ≡ 0) (sym under_order) none);
        });
      }

pub turned_under : (n : ℕ) (nodes : List Node) (at left right : ℕ) (l r : Tree) → MayHang nodes at left right l r → height_of nodes right ≡ height_of nodes left + 2
    → height_of nodes right + 1 < n → height_of nodes (node_at nodes right).right < height_of nodes (node_at nodes right).left
    → IsTurnedUnder n nodes at left right (node_at nodes right).left (node_at nodes right).right (node_at nodes (node_at nodes right).left).left (node_at nodes (node_at nodes right).left).right l r
turned_under n nodes at left right l Leaf may higher low leans = absurd (omega (arith, stored nodes right Leaf may.few may.holds_right))
turned_under n nodes at left right z (Fork Leaf j x) may higher low leans = absurd (omega (arith, stored nodes (node_at nodes right).left Leaf may.few may.holds_right.3))
turned_under n nodes at left right z (Fork (Fork u i v) j x) may higher low leans = under_inner n nodes at left right z u v x i j may higher low leans
