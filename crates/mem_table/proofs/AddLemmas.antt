-- One more node in a tree of keys.
use Rattle.std.proofs.lemmas.Bool.Decides.{nat_tests}
use Rattle.std.proofs.lemmas.Grind.{common_steps}
use Rattle.std.proofs.Common.{◌≡◌, ◌≢◌, ℕ, ◌+◌, ◌<◌, ◌≤◌, max, List, [], ◌∷◌, ◌++◌, length, refl, ap, sym, subst, ◌∙◌, arith}
use Rattle.std.specs.List.{AllByRecursion}
use Rattle.std.specs.declared.cmp.Ordering.TheVariants.{Less, Greater}
use Rattle.std.specs.FinMap.{put}
use Rattle.std.specs.FinMap.Entries.{by_order}
use Rattle.std.proofs.lemmas.Cmp.{nat_list_cmp_total}
use Rattle.std.proofs.lemmas.List.{length-append}
use Rattle.blsm_model.specs.declared.key.Key.{Key}
use Rattle.blsm_model.specs.Keys.{key_cmp}
use Rattle.record_delta.specs.declared.record.Rec.{Rec}
use Rattle.record_delta.specs.Entries.{Entries}
use Rattle.mem_table.specs.declared.nodes.Node.{Node}
use Rattle.mem_table.specs.Shapes.{Tree, Leaf, Fork, height, places, IsBalanced, DifferByAtMost, one_if, times, no_node, height_of, Holds, tree_at, joined, MayHang, IsHung}
use Rattle.mem_table.specs.Ways.{entry_at, entries_at, tree_entries, AreWithout, IsNew, IsAdded}
use Rattle.mem_table.proofs.PlaceLemmas.{tied}
use Rattle.mem_table.proofs.NodeLemmas.{times_fork, stored, read, stays, joined_other, length-joined, hang, differs_if_none}
use Rattle.mem_table.proofs.WayLemmas.{entries_fork, Parts, all_parts, IsForked, entries_split, times_split, height_split, bare, less_of_greater, greater_of_less}

-- ---- among lists

pub put_before : (k : Key) (v : Rec) (es : Entries) (e : Key × Rec) (fs : Entries) → key_cmp k e.0 ≡ Less → put key_cmp k v es ++ e ∷ fs ≡ put key_cmp k v (es ++ e ∷ fs)
put_before k v [] e fs less = sym (ap (λ o. by_order o ((k, v) ∷ e ∷ fs) ((e.0, v) ∷ fs) (e ∷ put key_cmp k v fs)) less)
put_before k v (x ∷ es) e fs less = grind (arith, common_steps, nat_tests, put_before k v es e fs less)

pub put_behind : (k : Key) (v : Rec) (es : Entries) (e : Key × Rec) (fs : Entries) → AllByRecursion (λ x. key_cmp x.0 e.0 ≡ Less) es → key_cmp k e.0 ≡ Greater
    → es ++ e ∷ put key_cmp k v fs ≡ put key_cmp k v (es ++ e ∷ fs)
put_behind k v [] e fs below greater = sym (ap (λ o. by_order o ((k, v) ∷ e ∷ fs) ((e.0, v) ∷ fs) (e ∷ put key_cmp k v fs)) greater)
put_behind k v (x ∷ es) e fs below greater =
    let ih0 = (put_behind k v es e fs below.1 greater) in
    grind (arith, common_steps, nat_tests, greater_of_less, nat_list_cmp_total, less_of_greater)

-- ---- the first node

pub added_first : (nodes : List Node) (slots : Entries) (root new : ℕ) → length nodes ≤ no_node → root ≡ no_node → new < length nodes
    → IsAdded nodes (joined nodes new no_node no_node) slots root new new
added_first nodes slots root new few is within =
    let after : List Node = joined nodes new no_node no_node in
    let holds : Holds after new (Fork Leaf new Leaf) = hang nodes new no_node no_node Leaf Leaf few within refl refl refl refl in
    let tree_is : tree_at after new ≡ Fork Leaf new Leaf = read after new (Fork Leaf new Leaf) (omega (arith, length-joined nodes new no_node no_node)) holds in
    let bare_is : tree_at nodes root ≡ Leaf = bare nodes root few is in
    record {
      holds = subst (λ (t : Tree). Holds after new t) (sym tree_is) holds;
      balanced = subst IsBalanced (sym tree_is) ((omega arith, omega arith), tt, tt);
      entries_are = ap (λ (t : Tree). entries_at slots (places t)) tree_is ∙ sym (ap (λ (t : Tree). put key_cmp (entry_at slots new).0 (entry_at slots new).1 (entries_at slots (places t))) bare_is);
      one_more = omega (arith, ap (λ (t : Tree). length (places t)) tree_is, ap (λ (t : Tree). length (places t)) bare_is);
      places_are = λ q. omega (arith, ap (λ (t : Tree). times q (places t)) tree_is, ap (λ (t : Tree). times q (places t)) bare_is);
      not_lower = omega (arith, ap height bare_is);
      one_higher = omega (arith, ap height bare_is, ap height tree_is);
      others = λ q none. joined_other nodes new no_node no_node q (differs_if_none q new (omega arith));
    }

-- ---- below a node

not_less_greater : (a b : Key) → key_cmp a b ≢ Less → b ≢ a → key_cmp a b ≡ Greater
not_less_greater a b not_less differs = grind (arith, common_steps, nat_tests, tied a b)

pub may_at : (nodes : List Node) (root left right : ℕ) → length nodes ≤ no_node → root < length nodes → Holds nodes left (tree_at nodes left)
    → Holds nodes right (tree_at nodes right)
    → IsBalanced (tree_at nodes left) → IsBalanced (tree_at nodes right) → ((q : ℕ) → times q (places (tree_at nodes left)) + one_if q root + times q (places (tree_at nodes right)) ≤ 1)
    → MayHang nodes root left right (tree_at nodes left) (tree_at nodes right)
may_at nodes root left right few within hl hr bl br apart = record {
  few = few;
  in_range = within;
  holds_left = hl;
  holds_right = hr;
  balanced_left = bl;
  balanced_right = br;
  apart = λ q. omega (arith, apart q, times_fork q (places (tree_at nodes left)) (places (tree_at nodes right)) root);
}

module _ (nodes : List Node) (slots : Entries) (root left right new : ℕ) (fork : IsForked nodes slots root left right) (adds : IsNew nodes slots root new) where
  new_parts : Parts (λ e. e.0 ≢ (entry_at slots new).0) (tree_entries nodes slots left) (entry_at slots root) (tree_entries nodes slots right)
  new_parts = all_parts _ (tree_entries nodes slots left) (entry_at slots root) (tree_entries nodes slots right) (subst (AreWithout (entry_at slots new).0) (entries_split nodes slots root left right fork) adds.without)

  pub new_left : IsNew nodes slots left new
  new_left = record { in_range = adds.in_range; apart = λ q. omega (arith, adds.apart q, times_split nodes slots root left right fork q); without = new_parts.before }

  pub new_right : IsNew nodes slots right new
  new_right = record { in_range = adds.in_range; apart = λ q. omega (arith, adds.apart q, times_split nodes slots root left right fork q); without = new_parts.after }

  -- what isn't below and isn't the same is beyond
  pub new_beyond : key_cmp (entry_at slots new).0 (entry_at slots root).0 ≢ Less → key_cmp (entry_at slots new).0 (entry_at slots root).0 ≡ Greater
  new_beyond not_less = not_less_greater (entry_at slots new).0 (entry_at slots root).0 not_less new_parts.here

  pub balanced_sides : IsBalanced (tree_at nodes root) → IsBalanced (Fork (tree_at nodes left) root (tree_at nodes right))
  balanced_sides balanced = subst IsBalanced fork.tree_is balanced

  module _ (mid : List Node) (below : ℕ) (balanced : IsBalanced (tree_at nodes root)) (len : length mid ≡ length nodes) where
    -- the node on the left
    module _ (added : IsAdded nodes mid slots left new below) where
      held_right : Holds mid right (tree_at nodes right)
      held_right = stays nodes mid right (tree_at nodes right) (omega arith) (λ q one. added.others q (omega (arith, adds.apart q, times_split nodes slots root left right fork q))) fork.right_tree.holds

      right_is : tree_at mid right ≡ tree_at nodes right
      right_is = read mid right (tree_at nodes right) (omega (arith, fork.right_tree.few)) held_right

      pub may_left : MayHang mid root below right (tree_at mid below) (tree_at mid right)
      may_left =
          may_at mid root below right (omega (arith, fork.right_tree.few)) (omega (arith, fork.in_range)) added.holds (rw right_is held_right) added.balanced (rw right_is (balanced_sides balanced).2)
          (λ q. omega (arith, added.places_are q, ap (λ (t : Tree). times q (places t)) right_is, times_split nodes slots root left right fork q, adds.apart q))

      heights_left : (height_of mid below ≡ height (tree_at mid below)) × (height_of mid right ≡ height (tree_at nodes right))
      heights_left = (stored mid below (tree_at mid below) may_left.few added.holds, stored mid right (tree_at nodes right) may_left.few held_right)

      pub differ_left : DifferByAtMost 2 (height_of mid below) (height_of mid right)
      differ_left = grind (arith, common_steps, nat_tests, balanced_sides, heights_left)

      pub low_left : (n : ℕ) → height (tree_at nodes root) + 1 < n → max (height_of mid below) (height_of mid right) + 1 < n
      low_left n low = omega (arith, heights_left.0, heights_left.1, added.one_higher, height_split nodes slots root left right fork)

      pub added_left : (after : List Node) (top : ℕ) → key_cmp (entry_at slots new).0 (entry_at slots root).0 ≡ Less
          → IsHung mid after root (tree_at mid below) (tree_at mid right) top (tree_at after top) → IsAdded nodes after slots root new top
      added_left after top h1 h2 = grind (arith, common_steps, nat_tests, height_split, balanced_sides, right_is, entries_fork, put_before, entries_split, length-append, times_fork)

    -- the node on the right
    module _ (added : IsAdded nodes mid slots right new below) where
      held_left : Holds mid left (tree_at nodes left)
      held_left = stays nodes mid left (tree_at nodes left) (omega arith) (λ q one. added.others q (omega (arith, adds.apart q, times_split nodes slots root left right fork q))) fork.left_tree.holds

      left_is : tree_at mid left ≡ tree_at nodes left
      left_is = read mid left (tree_at nodes left) (omega (arith, fork.right_tree.few)) held_left

      pub may_right : MayHang mid root left below (tree_at mid left) (tree_at mid below)
      may_right =
          may_at mid root left below (omega (arith, fork.right_tree.few)) (omega (arith, fork.in_range)) (rw left_is held_left) added.holds (rw left_is (balanced_sides balanced).1) added.balanced
          (λ q. omega (arith, added.places_are q, ap (λ (t : Tree). times q (places t)) left_is, times_split nodes slots root left right fork q, adds.apart q))

      heights_right : (height_of mid left ≡ height (tree_at nodes left)) × (height_of mid below ≡ height (tree_at mid below))
      heights_right = (stored mid left (tree_at nodes left) may_right.few held_left, stored mid below (tree_at mid below) may_right.few added.holds)

      pub differ_right : DifferByAtMost 2 (height_of mid left) (height_of mid below)
      differ_right = grind (arith, common_steps, nat_tests, balanced_sides, heights_right)

      pub low_right : (n : ℕ) → height (tree_at nodes root) + 1 < n → max (height_of mid left) (height_of mid below) + 1 < n
      low_right n low = omega (arith, heights_right.0, heights_right.1, added.one_higher, height_split nodes slots root left right fork)

      pub added_right : (after : List Node) (top : ℕ) → key_cmp (entry_at slots new).0 (entry_at slots root).0 ≡ Greater
          → IsHung mid after root (tree_at mid left) (tree_at mid below) top (tree_at after top) → IsAdded nodes after slots root new top
      added_right after top h1 h2 = grind (arith, common_steps, nat_tests, height_split, balanced_sides, left_is, entries_fork, put_behind, entries_split, length-append, times_fork)
