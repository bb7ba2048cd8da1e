-- Trees of keys: how a tree's entries part at its node, and what a search and one more node make of them.
use Rattle.std.proofs.lemmas.Bool.Decides.{nat_tests}
use Rattle.std.proofs.lemmas.Grind.{common_steps}
use Rattle.std.proofs.Common.{◌≡◌, ◌≢◌, ℕ, suc, ◌+◌, ◌<◌, ◌≤◌, max, Bool, true, false, cond, ◌&&◌, T, List, [], ◌∷◌, ◌++◌, length, get_or, Option, Some, None, IfSome, IfNone, refl, ap, sym, subst, ◌∙◌, arith}
use Rattle.std.specs.List.{AllByRecursion}
use Rattle.std.specs.declared.cmp.Ordering.{Ordering}
use Rattle.std.specs.declared.cmp.Ordering.TheVariants.{Less, Equal, Greater}
use Rattle.std.specs.FinMap.{is_sorted}
use Rattle.std.specs.FinMap.Entries.{below_all}
use Rattle.std.proofs.lemmas.Bool.{eq-eqb, ne_eqb}
use Rattle.std.proofs.lemmas.Cmp.{nat_list_cmp_total}
use Rattle.std.proofs.lemmas.List.{map-append, length-append, get_or-append-add, get_or_default}
use Rattle.blsm_model.specs.declared.key.Key.{Key}
use Rattle.blsm_model.specs.Keys.{key_cmp}
use Rattle.record_delta.specs.declared.record.Rec.{Rec}
use Rattle.record_delta.specs.declared.record.Rec.TheVariants.{Tomb}
use Rattle.record_delta.specs.Entries.{Entries, is_above}
use Rattle.mem_table.specs.declared.nodes.Node.{Node}
use Rattle.mem_table.specs.Shapes.{Tree, Leaf, Fork, height, places, times, one_if, no_node, node_at, height_of, Holds, tree_at}
use Rattle.mem_table.specs.Ways.{entry_at, entries_at, tree_entries, IsTree, IsPlaced, AreWithout, place_above, or_else, place_of}
use Rattle.mem_table.proofs.SortedLemmas.{both_hold, test_holds, less_from_test, turned}
use Rattle.mem_table.proofs.PlaceLemmas.{sorted_test, tied}
use Rattle.mem_table.proofs.NodeLemmas.{times_fork, stored, read}

-- ---- lists of entries round one of them

pub entries_fork : (slots : Entries) (ps qs : List ℕ) (p : ℕ) → entries_at slots (ps ++ p ∷ qs) ≡ entries_at slots ps ++ entry_at slots p ∷ entries_at slots qs
entries_fork slots ps qs p = map-append (entry_at slots) ps (p ∷ qs)

pub all_fork : (P : Key × Rec → Type 0) (es : Entries) (e : Key × Rec) (fs : Entries) → AllByRecursion P es → P e → AllByRecursion P fs → AllByRecursion P (es ++ e ∷ fs)
all_fork P [] e fs before here after = (here, after)
all_fork P (x ∷ es) e fs before here after = (before.0, all_fork P es e fs before.1 here after)

pub record Parts (P : Key × Rec → Type 0) (es : Entries) (e : Key × Rec) (fs : Entries) : Type 0 where
  pub before : AllByRecursion P es
  pub here : P e
  pub after : AllByRecursion P fs

pub all_parts : (P : Key × Rec → Type 0) (es : Entries) (e : Key × Rec) (fs : Entries) → AllByRecursion P (es ++ e ∷ fs) → Parts P es e fs
all_parts P [] e fs all = record { before = tt; here = all.0; after = all.1 }
all_parts P (x ∷ es) e fs all = grind (arith, common_steps, nat_tests, all_parts P es e fs all.1)

both_true : (a b : Bool) → T a → T b → T (a && b)
both_true a b h1 h2 = grind (arith, common_steps, nat_tests)

below_seam : (k : Key) (es : Entries) (e : Key × Rec) (fs : Entries) → T (below_all key_cmp k (es ++ e ∷ fs)) → T (below_all key_cmp k es) × (key_cmp k e.0 ≡ Less)
below_seam k [] e fs h = (tt, less_from_test _ (both_hold _ _ h).0)
below_seam k (x ∷ es) e fs h =
    let rest = below_seam k es e fs (both_hold _ _ h).1 in
    (both_true _ _ (both_hold _ _ h).0 rest.0, rest.1)

pub all_beyond : (k : Key) (fs : Entries) → T (below_all key_cmp k fs) → AllByRecursion (λ x. key_cmp k x.0 ≡ Less) fs
all_beyond k [] h = tt
all_beyond k (x ∷ fs) h = (less_from_test _ (both_hold _ _ h).0, all_beyond k fs (both_hold _ _ h).1)

pub record Around (es : Entries) (e : Key × Rec) (fs : Entries) : Type 0 where
  pub front : T (is_sorted key_cmp es)
  pub back : T (is_sorted key_cmp fs)
  pub below : AllByRecursion (λ x. key_cmp x.0 e.0 ≡ Less) es
  pub beyond : AllByRecursion (λ x. key_cmp e.0 x.0 ≡ Less) fs

pub around : (es : Entries) (e : Key × Rec) (fs : Entries) → T (is_sorted key_cmp (es ++ e ∷ fs)) → Around es e fs
around [] e fs h = record { front = tt; back = (both_hold _ _ h).1; below = tt; beyond = all_beyond e.0 fs (both_hold _ _ h).0 }
around (x ∷ es) e fs h =
    let rest = around es e fs (both_hold _ _ h).1 in
    let seam = below_seam x.0 es e fs (both_hold _ _ h).0 in
    record { front = both_true _ _ seam.0 rest.front; back = rest.back; below = (seam.1, rest.below); beyond = rest.beyond }

-- ---- a tree parts at its node

pub record IsForked (nodes : List Node) (slots : Entries) (root left right : ℕ) : Type 0 where
  pub in_range : root < length nodes
  pub tree_is : tree_at nodes root ≡ Fork (tree_at nodes left) root (tree_at nodes right)
  pub left_tree : IsTree nodes slots left
  pub right_tree : IsTree nodes slots right
  pub lower_left : height_of nodes left < height_of nodes root
  pub lower_right : height_of nodes right < height_of nodes root
  pub below : AllByRecursion (λ x. key_cmp x.0 (entry_at slots root).0 ≡ Less) (tree_entries nodes slots left)
  pub beyond : AllByRecursion (λ x. key_cmp (entry_at slots root).0 x.0 ≡ Less) (tree_entries nodes slots right)

forked_at : (nodes : List Node) (slots : Entries) (root : ℕ) (t : Tree) → length nodes ≤ no_node → length slots ≡ length nodes → root ≢ no_node → tree_at nodes root ≡ t → Holds nodes root t
    → T (is_sorted key_cmp (entries_at slots (places t))) → IsForked nodes slots root (node_at nodes root).left (node_at nodes root).right
forked_at nodes slots root Leaf few as_many there is h sorted = absurd (there h)
forked_at nodes slots root (Fork l q r) few as_many there is h sorted =
    let left : ℕ = (node_at nodes root).left in
    let right : ℕ = (node_at nodes root).right in
    let left_is : tree_at nodes left ≡ l = read nodes left l few h.3 in
    let right_is : tree_at nodes right ≡ r = read nodes right r few h.4 in
    let parts = around (entries_at slots (places l)) (entry_at slots q) (entries_at slots (places r)) (subst (λ (es : Entries). T (is_sorted key_cmp es)) (entries_fork slots (places l) (places r) q) sorted) in
    record {
      in_range = h.1;
      tree_is = rw (is, left_is, right_is, h.0) refl;
      left_tree = record { few = few; as_many = as_many; holds = rw left_is h.3; sorted = rw left_is (test_holds _ parts.front) };
      right_tree = record { few = few; as_many = as_many; holds = rw right_is h.4; sorted = rw right_is (test_holds _ parts.back) };
      lower_left = omega (arith, stored nodes left l few h.3, h.2);
      lower_right = omega (arith, stored nodes right r few h.4, h.2);
      below = rw (left_is, h.0) parts.below;
      beyond = rw (right_is, h.0) parts.beyond;
    }

pub forked : (nodes : List Node) (slots : Entries) (root : ℕ) → IsTree nodes slots root → root ≢ no_node → IsForked nodes slots root (node_at nodes root).left (node_at nodes root).right
forked nodes slots root tree there = forked_at nodes slots root (tree_at nodes root) tree.few tree.as_many there refl tree.holds (sorted_test (tree_entries nodes slots root) tree.sorted)

pub bare : (nodes : List Node) (root : ℕ) → length nodes ≤ no_node → root ≡ no_node → tree_at nodes root ≡ Leaf
bare nodes root few is = read nodes root Leaf few is

module _ (nodes : List Node) (slots : Entries) (root left right : ℕ) (fork : IsForked nodes slots root left right) where
  pub entries_split : tree_entries nodes slots root ≡ tree_entries nodes slots left ++ entry_at slots root ∷ tree_entries nodes slots right
  entries_split = ap (λ (t : Tree). entries_at slots (places t)) fork.tree_is ∙ entries_fork slots (places (tree_at nodes left)) (places (tree_at nodes right)) root

  pub times_split : (q : ℕ) → times q (places (tree_at nodes root)) ≡ times q (places (tree_at nodes left)) + one_if q root + times q (places (tree_at nodes right))
  times_split q = ap (λ (t : Tree). times q (places t)) fork.tree_is ∙ times_fork q (places (tree_at nodes left)) (places (tree_at nodes right)) root

  pub height_split : height (tree_at nodes root) ≡ max (height (tree_at nodes left)) (height (tree_at nodes right)) + 1
  height_split = ap height fork.tree_is

-- ---- looking a key up

less_differs : (a b : Key) → key_cmp a b ≡ Less → b ≢ a
less_differs a b h1 = grind (arith, common_steps, nat_tests, nat_list_cmp_total)

all_beyond_differ : (key k : Key) (fs : Entries) → key_cmp key k ≡ Less → AllByRecursion (λ x. key_cmp k x.0 ≡ Less) fs → AreWithout key fs
all_beyond_differ key k [] less all = tt
all_beyond_differ key k (x ∷ fs) less all = (less_differs key x.0 (nat_list_cmp_total.trans key k x.0 less all.0), all_beyond_differ key k fs less all.1)

all_below_differ : (key k : Key) (es : Entries) → key_cmp k key ≡ Less → AllByRecursion (λ x. key_cmp x.0 k ≡ Less) es → AreWithout key es
all_below_differ key k [] less all = tt
all_below_differ key k (x ∷ es) less all =
    (λ is. less_differs x.0 key (nat_list_cmp_total.trans x.0 k key all.0 less) (sym is), all_below_differ key k es less all.1)

pub less_of_greater : (a b : Key) → key_cmp a b ≡ Greater → key_cmp b a ≡ Less
less_of_greater a b greater = turned key_cmp nat_list_cmp_total a b Greater greater

pub greater_of_less : (a b : Key) → key_cmp a b ≡ Less → key_cmp b a ≡ Greater
greater_of_less a b less = turned key_cmp nat_list_cmp_total a b Less less

-- what a search in the tree at a node answers
pub record IsAnswer (nodes : List Node) (slots : Entries) (root : ℕ) (key : Key) (r : Option ℕ) : Type 0 where
  pub found : IfSome r (IsPlaced slots (places (tree_at nodes root)) key)
  pub absent : IfNone r (AreWithout key (tree_entries nodes slots root))

module _ (nodes : List Node) (slots : Entries) (root left right : ℕ) (key : Key) (fork : IsForked nodes slots root left right) where
  pub answer_left : (r : Option ℕ) → key_cmp key (entry_at slots root).0 ≡ Less → IsAnswer nodes slots left key r → IsAnswer nodes slots root key r
  answer_left r h1 h2 = grind (arith, common_steps, nat_tests, entries_split, all_fork, less_differs, all_beyond_differ)

  -- from its node on
  placed_from : (p i : ℕ) → i < length (root ∷ places (tree_at nodes right)) → get_or (root ∷ places (tree_at nodes right)) i no_node ≡ p → p < length slots → (entry_at slots p).0 ≡ key → IsPlaced slots (places (tree_at nodes root)) key p
  placed_from p i within there in_range key_is = rw fork.tree_is (record {
    index = length (places (tree_at nodes left)) + i;
    within = omega (arith, within, length-append (places (tree_at nodes left)) (root ∷ places (tree_at nodes right)));
    there = get_or-append-add (places (tree_at nodes left)) (root ∷ places (tree_at nodes right)) i no_node ∙ there;
    in_range = in_range;
    key_is = key_is;
  })

  pub answer_right : (r : Option ℕ) → key_cmp key (entry_at slots root).0 ≡ Greater → IsAnswer nodes slots right key r → IsAnswer nodes slots root key r
  answer_right None greater a =
      let less = less_of_greater key (entry_at slots root).0 greater in
      let absent = all_fork _ (tree_entries nodes slots left) (entry_at slots root) (tree_entries nodes slots right)
      (all_below_differ key (entry_at slots root).0 (tree_entries nodes slots left) less fork.below) (λ is. less_differs (entry_at slots root).0 key less (sym is)) a.absent in
      record { found = tt; absent = rw (entries_split nodes slots root left right fork) absent }
  answer_right (Some p) greater a = record { found = placed_from p (suc a.found.index) (omega (arith, a.found.within)) a.found.there a.found.in_range a.found.key_is; absent = tt }

  pub answer_here : key_cmp key (entry_at slots root).0 ≡ Equal → IsAnswer nodes slots root key (Some root)
  answer_here same = record { found = placed_from root 0 (omega arith) refl (omega (arith, fork.in_range, fork.left_tree.as_many)) (sym (tied key (entry_at slots root).0 same)); absent = tt }

pub answer_none : (nodes : List Node) (slots : Entries) (root : ℕ) (key : Key) → length nodes ≤ no_node → root ≡ no_node → IsAnswer nodes slots root key None
answer_none nodes slots root key few is = grind (arith, common_steps, nat_tests, bare)

pub place_there : (p : ℕ) → p ≢ no_node → place_of p ≡ Some p
place_there p there = ap (λ b. cond b None (Some p)) (ne_eqb p no_node there)

pub place_missing : (p : ℕ) → p ≡ no_node → place_of p ≡ None
place_missing p is = ap (λ b. cond b None (Some p)) (eq-eqb p no_node is)

-- ---- the next key above

not_above_below : (low : Option Key) (a b : Key) → is_above low b ≡ false → key_cmp a b ≡ Less → is_above low a ≡ false
not_above_below low a b h1 h2 = grind (arith, common_steps, nat_tests, nat_list_cmp_total)

above_left : (slots : Entries) (low : Option Key) (ps : List ℕ) (p : ℕ) (qs : List ℕ) (before : Option ℕ) → is_above low (entry_at slots p).0 ≡ true
    → or_else (place_above slots low (ps ++ p ∷ qs)) before ≡ or_else (place_above slots low ps) (Some p)
above_left slots low [] p qs before is = ap (λ b. or_else (cond b (Some p) (place_above slots low qs)) before) is
above_left slots low (x ∷ ps) p qs before is = grind (arith, common_steps, nat_tests, above_left slots low ps p qs before is)

above_right : (slots : Entries) (low : Option Key) (ps : List ℕ) (p : ℕ) (qs : List ℕ) → AllByRecursion (λ x. key_cmp x.0 (entry_at slots p).0 ≡ Less) (entries_at slots ps)
    → is_above low (entry_at slots p).0 ≡ false → place_above slots low (ps ++ p ∷ qs) ≡ place_above slots low qs
above_right slots low [] p qs below is = ap (λ b. cond b (Some p) (place_above slots low qs)) is
above_right slots low (x ∷ ps) p qs below is = grind (arith, common_steps, nat_tests, above_right slots low ps p qs below.1 is, not_above_below)

module _ (nodes : List Node) (slots : Entries) (root left right : ℕ) (fork : IsForked nodes slots root left right) where
  pub next_left : (low : Option Key) (before : Option ℕ) → is_above low (entry_at slots root).0 ≡ true
      → or_else (place_above slots low (places (tree_at nodes left))) (Some root) ≡ or_else (place_above slots low (places (tree_at nodes root))) before
  next_left low before is = grind (arith, common_steps, nat_tests, above_left)

  pub next_right : (low : Option Key) (before : Option ℕ) → is_above low (entry_at slots root).0 ≡ false
      → or_else (place_above slots low (places (tree_at nodes right))) before ≡ or_else (place_above slots low (places (tree_at nodes root))) before
  next_right low before is = grind (arith, common_steps, nat_tests, above_right)

pub next_none : (nodes : List Node) (slots : Entries) (root : ℕ) (low : Option Key) (before : Option ℕ) → length nodes ≤ no_node → root ≡ no_node
    → before ≡ or_else (place_above slots low (places (tree_at nodes root))) before
next_none nodes slots root low before few is = sym (ap (λ (t : Tree). or_else (place_above slots low (places t)) before) (bare nodes root few is))

-- ---- what a read and a comparison tell

pub seen : (slots : Entries) (p : ℕ) (d : Key × Rec) → p < length slots → entry_at slots p ≡ get_or slots p d
seen slots p d within = get_or_default slots p _ d within

-- the key of a place, beside another's
pub compared_key : (slots : Entries) (key : Key) (q p : ℕ) (compared : Ordering) → (entry_at slots q).0 ≡ key → ((e : Key × Rec) → compared ≡ key_cmp key (get_or slots p e).0) → key_cmp (entry_at slots q).0 (entry_at slots p).0 ≡ compared
compared_key slots key q p compared is by = ap (λ (k : Key). key_cmp k (entry_at slots p).0) is ∙ sym (by ([], Tomb))
