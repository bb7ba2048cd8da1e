-- A table without its least key, and one whose floor is raised.
use Rattle.std.proofs.Common.{◌≡◌, ◌≢◌, ℕ, ◌+◌, ◌-◌, ◌<◌, ◌≤◌, inl, inr, true, false, cond, T, List, [], ◌∷◌, length, set, Option, Some, refl, ap, sym, subst, ◌∙◌, arith}
use Rattle.std.specs.List.{AllByRecursion}
use Rattle.std.specs.FinMap.{is_sorted}
use Rattle.std.proofs.lemmas.Bool.{cases_eq}
use Rattle.std.proofs.lemmas.List.{length-set, length-map, get_or-set_same, get_or-set_other}
use Rattle.std.proofs.lemmas.List.Sums.{sum_by-set, sum_by-cons}
use Rattle.blsm_model.specs.declared.key.Key.{Key}
use Rattle.blsm_model.specs.Keys.{key_cmp}
use Rattle.record_delta.specs.declared.record.Rec.{Rec}
use Rattle.record_delta.specs.Records.{weight}
use Rattle.record_delta.specs.Entries.{Entries, entries_weight, is_above, above, up_to}
use Rattle.entry_store.specs.Stores.{HasEntry, vacant}
use Rattle.mem_table.specs.declared.nodes.Node.{Node}
use Rattle.mem_table.specs.Shapes.{Tree, places, one_if, times, no_node, height_of, tree_at, MayLoseOne, IsTaken}
use Rattle.mem_table.specs.Ways.{entry_at, entries_at, tree_entries}
use Rattle.mem_table.specs.Tables.{Contents, AreApart, IsTable, IsArena, left_above, raised, dropped_to, begins_by, keys_of}
use Rattle.mem_table.proofs.SortedLemmas.{both_hold, test_holds}
use Rattle.mem_table.proofs.PlaceLemmas.{sorted_test}
use Rattle.mem_table.proofs.NodeLemmas.{one_if_same, none_if_differs, stored}
use Rattle.mem_table.proofs.WayLemmas.{bare}
use Rattle.mem_table.proofs.DropLemmas.{all_above, not_above_itself, first_dropped, above_first, above_begins, left_same, left_vacant}
use Rattle.mem_table.proofs.TableLemmas.{all_places, entries_other, within_nodes, height_le, key_at, tree_there, places_few, key_kept}

-- what contracts see of a table
abbrev seen : ℕ → Entries → List Key → Option Key → ℕ → Contents
seen reserved entries arrived floor dropped = record { entries = entries; reserved = reserved; arrived = arrived; floor = floor; dropped = dropped }

same : (reserved : ℕ) {es fs : Entries} {ks ls : List Key} {f g : Option Key} {m n : ℕ} → es ≡ fs → ks ≡ ls → f ≡ g → m ≡ n
    → seen reserved es ks f m ≡ seen reserved fs ls g n
same reserved entries arrived floor dropped = rw (entries, arrived, floor, dropped) refl

abbrev pub contents : List Node → Entries → ℕ → Option Key → ℕ → ℕ → Contents
contents nodes slots root floor dropped reserved = seen reserved (tree_entries nodes slots root) (keys_of slots) floor dropped

module _ (nodes : List Node) (slots : Entries) (root : ℕ) (floor : Option Key) (kept dropped reserved node_places : ℕ)
    (a : IsArena nodes slots root floor kept dropped reserved node_places) where
  tree_few : length nodes ≤ no_node
  tree_few = (tree_there nodes slots root floor kept dropped reserved node_places a).few

  pub may_lose_one : 1 ≤ length (tree_entries nodes slots root) → MayLoseOne nodes root
  may_lose_one some = record {
    few = tree_few;
    there = λ is. absurd (omega (arith, some, ap (λ (t : Tree). length (entries_at slots (places t))) (bare nodes root tree_few is)));
    holds = a.holds;
    balanced = a.balanced;
    once = a.once;
  }

  pub low_root : height_of nodes root < 4294967296
  low_root = omega (
    arith,
    stored nodes root (tree_at nodes root) tree_few a.holds,
    height_le (tree_at nodes root),
    places_few nodes slots root floor kept dropped reserved node_places a,
  )

  -- ---- the least key taken out

  module _ (after : List Node) (p top : ℕ) (len : length after ≡ length nodes) (taken : IsTaken nodes after root p top) where
    abbrev rest : Entries
    rest = entries_at slots (places (tree_at after top))

    times_are : (q : ℕ) → times q (places (tree_at nodes root)) ≡ one_if q p + times q (places (tree_at after top))
    times_are q = ap (times q) taken.places_are

    one : one_if p p ≡ 1
    one = one_if_same p p refl

    pub entries_parted : tree_entries nodes slots root ≡ entry_at slots p ∷ rest
    entries_parted = ap (entries_at slots) taken.places_are

    pub first_kept : HasEntry slots p
    first_kept = key_kept nodes slots root floor kept dropped reserved node_places a p (omega (arith, times_are p, one))

    pub first_in : p < length slots
    first_in = omega (arith, within_nodes nodes root (tree_at nodes root) p a.holds (omega (arith, times_are p, one)), a.as_many)

    rest_same : tree_entries after (set slots p vacant) top ≡ rest
    rest_same = entries_other slots (places (tree_at after top)) p vacant (omega (arith, times_are p, one, a.once p))

    sorted : T (is_sorted key_cmp (entry_at slots p ∷ rest))
    sorted = subst (λ (es : Entries). T (is_sorted key_cmp es)) entries_parted (sorted_test (tree_entries nodes slots root) a.table.sorted)

    high : AllByRecursion (λ x. is_above (Some (entry_at slots p).0) x.0 ≡ true) rest
    high = above_first (entry_at slots p) rest sorted

    parted_weight : kept ≡ weight (entry_at slots p).0 (entry_at slots p).1 + entries_weight rest
    parted_weight = a.table.weight_is ∙ ap entries_weight entries_parted ∙ sum_by-cons (λ (e : Key × Rec). weight e.0 e.1) (entry_at slots p) rest

    lighter : entries_weight (set slots p vacant) + weight (entry_at slots p).0 (entry_at slots p).1 ≡ entries_weight slots + 13
    lighter = omega (arith, sum_by-set (λ (x : Key × Rec). weight x.0 x.1) slots p vacant vacant first_in)

    other_entry : (q : ℕ) → q ≢ p → entry_at (set slots p vacant) q ≡ entry_at slots q
    other_entry q differs = get_or-set_other slots p q vacant vacant differs

    no_entry : (q : ℕ) → q ≡ p → entry_at (set slots p vacant) q ≡ vacant
    no_entry q is = ap (entry_at (set slots p vacant)) is ∙ get_or-set_same slots p vacant vacant first_in

    distinct_still : AreApart (keys_of (set slots p vacant))
    distinct_still i j lt within some is =
        let new_len = length-map (set slots p vacant) (λ (e : Key × Rec). e.0) in
        let old_len = length-map slots (λ (e : Key × Rec). e.0) in
        let same_len = length-set slots p vacant in
        let new_i = key_at (set slots p vacant) i (omega arith) in
        let new_j = key_at (set slots p vacant) j (omega arith) in
        let old_i = key_at slots i (omega arith) in
        let old_j = key_at slots j (omega arith) in
        elim (cases_eq j p) [
          | inl here ↦ absurd (omega (arith, some, ap length new_j, ap (λ (e : Key × Rec). length e.0) (no_entry j here)))
          | inr j_differs ↦
              let same_j = new_j ∙ ap (λ (e : Key × Rec). e.0) (other_entry j j_differs) ∙ sym old_j in
              elim (cases_eq i p) [
                | inl here ↦ absurd (omega (arith, some, ap length is, ap length new_i, ap (λ (e : Key × Rec). length e.0) (no_entry i here)))
                | inr i_differs ↦
                    let same_i = new_i ∙ ap (λ (e : Key × Rec). e.0) (other_entry i i_differs) ∙ sym old_i in
                    a.distinct i j lt (omega arith) (omega (arith, some, ap length same_j)) (sym same_i ∙ is ∙ same_j)
              ]
        ]

    pub arena_taken : (w : ℕ) → w ≡ weight (entry_at slots p).0 (entry_at slots p).1
        → IsArena after (set slots p vacant) top (Some (entry_at slots p).0) (kept - w) (dropped + w) reserved node_places
    arena_taken w w_is = record {
      table =
          subst (λ (es : Entries). IsTable es (Some (entry_at slots p).0) (kept - w) (dropped + w) reserved node_places) (sym rest_same)
          (record {
            sorted = test_holds _ (both_hold _ _ sorted).1;
            above_floor = high;
            weight_is = omega (arith, parted_weight, w_is);
            fits = omega (arith, a.table.fits, parted_weight, w_is);
            keys = (subst (λ (es : Entries). AllByRecursion (λ e. 1 ≤ length e.0) es) entries_parted a.table.keys).1;
            room = a.table.room;
          });
      slots_weight = omega (arith, lighter, a.slots_weight, parted_weight, w_is, first_kept);
      vacant_places = omega (arith, a.vacant_places, length-set slots p vacant, ap length taken.places_are, w_is, first_kept);
      numbered = a.numbered;
      as_many = omega (arith, a.as_many, length-set slots p vacant);
      once = λ q. omega (arith, times_are q, a.once q);
      there = λ q some.
          elim (cases_eq q p) [
            | inl same ↦ absurd (omega (arith, some, ap (λ (e : Key × Rec). length e.0) (no_entry q same)))
            | inr differs ↦ omega (
              arith,
              times_are q,
              none_if_differs q p differs,
              a.there q (omega (arith, some, ap (λ (e : Key × Rec). length e.0) (other_entry q differs))),
            )
          ];
      holds = taken.holds;
      balanced = taken.balanced;
      distinct = distinct_still;
    }

    pub contents_taken : (w : ℕ) → w ≡ weight (entry_at slots p).0 (entry_at slots p).1
        → contents after (set slots p vacant) top (Some (entry_at slots p).0) (dropped + w) reserved ≡ dropped_to (entry_at slots p).0
        (contents nodes slots root floor dropped reserved)
    contents_taken w w_is =
        let key : Key = (entry_at slots p).0 in
        let parts = first_dropped (entry_at slots p) rest high in
        let entries : tree_entries after (set slots p vacant) top ≡ above (Some key) (tree_entries nodes slots root) = rest_same ∙ sym parts.0
        ∙ sym (ap (above (Some key)) entries_parted) in
        let arrived : keys_of (set slots p vacant) ≡ left_above key (keys_of slots) =
        left_vacant key slots p first_in (not_above_itself key) (λ q differs some.
        all_places (λ x. is_above (Some key) x.0 ≡ true) slots (places (tree_at after top)) q high
        (omega (arith, times_are q, none_if_differs q p differs, a.there q some))) in
        let above_old : is_above floor key ≡ true = (subst (λ (es : Entries). AllByRecursion (λ e. is_above floor e.0 ≡ true) es) entries_parted
        a.table.above_floor).0 in
        let floor_is : Some key ≡ raised key floor = sym (ap (λ b. cond b (Some key) floor) above_old) in
        let weight_is : dropped + w ≡ dropped + entries_weight (up_to (Some key) (tree_entries nodes slots root)) =
        ap (λ n. dropped + n) (w_is ∙ sym (omega (
          arith,
          ap (λ (es : Entries). entries_weight (up_to (Some key) es)) entries_parted,
          ap entries_weight parts.1,
          sum_by-cons (λ (e : Key × Rec). weight e.0 e.1) (entry_at slots p) [],
        ))) in
        same reserved entries arrived floor_is weight_is

  -- ---- the floor raised to a key that all entries are above

  module _ (key : Key) (none : begins_by key (tree_entries nodes slots root) ≡ false) where
    all_high : AllByRecursion (λ e. is_above (Some key) e.0 ≡ true) (tree_entries nodes slots root)
    all_high = above_begins key (tree_entries nodes slots root) (sorted_test (tree_entries nodes slots root) a.table.sorted) none

    pub arena_raised : IsArena nodes slots root (Some key) kept dropped reserved node_places
    arena_raised = record {
      table = record {
        sorted = a.table.sorted;
        above_floor = all_high;
        weight_is = a.table.weight_is;
        fits = a.table.fits;
        keys = a.table.keys;
        room = a.table.room;
      };
      slots_weight = a.slots_weight;
      vacant_places = a.vacant_places;
      numbered = a.numbered;
      as_many = a.as_many;
      once = a.once;
      there = a.there;
      holds = a.holds;
      balanced = a.balanced;
      distinct = a.distinct;
    }

    pub contents_raised : (f : Option Key) → f ≡ raised key floor
        → contents nodes slots root f dropped reserved ≡ dropped_to key (contents nodes slots root floor dropped reserved)
    contents_raised f f_is =
        let parts = all_above (Some key) (tree_entries nodes slots root) all_high in
        let arrived : left_above key (keys_of slots) ≡ keys_of slots =
        left_same key slots (λ q some. all_places (λ x. is_above (Some key) x.0 ≡ true) slots (places (tree_at nodes root)) q all_high
        (a.there q some)) in
        let weight_is : dropped ≡ dropped + entries_weight (up_to (Some key) (tree_entries nodes slots root)) =
        omega (arith, ap entries_weight parts.1) in
        same reserved (sym parts.0) (sym arrived) f_is weight_is
