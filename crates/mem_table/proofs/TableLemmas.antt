-- A table's nodes and entries, each at its place.
use Rattle.std.proofs.lemmas.Bool.Decides.{nat_tests}
use Rattle.std.proofs.lemmas.Grind.{common_steps}
use Rattle.std.proofs.Common.{◌≡◌, ◌≢◌, ℕ, zero, suc, ◌+◌, ◌-◌, ◌*◌, ◌^◌, ◌<◌, ◌≤◌, inl, inr, ◌↔◌, Bool, true, false, cond, not, is_some, List, [], ◌∷◌, ◌++◌, length, get_or, set, take, drop, Option, Some, None, IsSome, IsNone, IfSome, IfNone, refl, ap, sym, subst, ◌∙◌, arith}
use Rattle.std.specs.List.{AllByRecursion, position, position_or_len}
use Rattle.std.proofs.lemmas.Bool.{cases_eq, cases_lt}
use Rattle.std.proofs.lemmas.List.{length-set, length-append, length-map, map-append, get_or-map, get_or_default, get_or_append_left, get_or-append-add, get_or_past, get_or-set_other}
use Rattle.std.proofs.lemmas.List.Quantifiers.{position-Some}
use Rattle.std.proofs.lemmas.List.Sums.{sum_by-set, sum_by-append}
use Rattle.blsm_model.specs.declared.key.Key.{Key}
use Rattle.blsm_model.specs.Format.{least_weight}
use Rattle.record_delta.specs.declared.record.Rec.{Rec}
use Rattle.record_delta.specs.declared.record.Rec.TheVariants.{Tomb}
use Rattle.record_delta.specs.Records.{weight}
use Rattle.record_delta.specs.Folding.{fold}
use Rattle.record_delta.specs.Entries.{Entries, record_of_key, entries_weight, with_record, is_above, above, first_of}
use Rattle.entry_store.specs.Stores.{HasEntry}
use Rattle.mem_table.specs.declared.nodes.Node.{Node}
use Rattle.mem_table.specs.Shapes.{Tree, Leaf, Fork, height, places, IsBalanced, times, no_node, node_at, height_of, Holds, tree_at}
use Rattle.mem_table.specs.Ways.{entry_at, entries_at, tree_entries, IsTree, IsPlaced, AreWithout, place_above, or_else, IsNew, IsAdded}
use Rattle.mem_table.specs.Tables.{AreApart, IsTable, IsArena, is_there, place_in, arrived_with, keys_of}
use Rattle.mem_table.proofs.PlaceLemmas.{sorted_test, test_same, test_other, there_same, there_other, same_there, present_at, place_of}
use Rattle.mem_table.proofs.EditLemmas.{with_record_at, total_apart, least_total, table_at, table_apart, weight_at_le}
use Rattle.mem_table.proofs.StepLemmas.{few}
use Rattle.mem_table.proofs.NodeLemmas.{times_fork, one_if_same, none_if_differs, stored, read, stays}
use Rattle.mem_table.proofs.Terms.{IsAt, IsGapFor}

-- ---- places in a list

pub record HasIndex (q : ℕ) (ps : List ℕ) : Type 0 where
  pub index : ℕ
  pub within : index < length ps
  pub there : get_or ps index no_node ≡ q

pub index_of : (q : ℕ) (ps : List ℕ) → 1 ≤ times q ps → HasIndex q ps
index_of q [] one = absurd (omega arith)
index_of q (p ∷ ps) one =
    elim (cases_eq q p) [
      | inl same ↦ record { index = 0; within = omega arith; there = sym same }
      | inr differs ↦
          let rest = index_of q ps (omega (arith, none_if_differs q p differs)) in
          record { index = suc rest.index; within = omega (arith, rest.within); there = rest.there }
    ]

counted : (q i : ℕ) (ps : List ℕ) → i < length ps → get_or ps i no_node ≡ q → 1 ≤ times q ps
counted q i [] within is = absurd (omega arith)
counted q zero (p ∷ ps) within is = omega (arith, one_if_same q p (sym is))
counted q (suc i) (p ∷ ps) within is = omega (arith, counted q i ps (omega arith) is)

pub within_nodes : (nodes : List Node) (root : ℕ) (t : Tree) (q : ℕ) → Holds nodes root t → 1 ≤ times q (places t) → q < length nodes
within_nodes nodes root Leaf q h one = absurd (omega arith)
within_nodes nodes root (Fork l p r) q h one = grind (arith, common_steps, nat_tests, within_nodes nodes (node_at nodes root).left l q h.3, within_nodes nodes (node_at nodes root).right r q h.4, times_fork, none_if_differs)

pub height_le : (t : Tree) → height t ≤ length (places t)
height_le Leaf = omega arith
height_le (Fork l p r) = omega (arith, height_le l, height_le r, length-append (places l) (p ∷ places r))

-- ---- the entries at places

entry_of_index : (slots : Entries) (ps : List ℕ) (i : ℕ) (d : Key × Rec) → i < length ps → get_or (entries_at slots ps) i d ≡ entry_at slots (get_or ps i no_node)
entry_of_index slots ps i d within = get_or-map (entry_at slots) ps i no_node d within

pub is_at : (slots : Entries) (ps : List ℕ) (q : ℕ) (key : Key) (has : HasIndex q ps) → (entry_at slots q).0 ≡ key → IsAt (entries_at slots ps) key has.index
is_at slots ps q key has is = grind (arith, common_steps, nat_tests)

pub entry_is : (slots : Entries) (ps : List ℕ) (q : ℕ) (has : HasIndex q ps) (d : Key × Rec) → get_or (entries_at slots ps) has.index d ≡ entry_at slots q
entry_is slots ps q has d = entry_of_index slots ps has.index d has.within ∙ ap (entry_at slots) has.there

pub entries_other : (slots : Entries) (ps : List ℕ) (q : ℕ) (e : Key × Rec) → times q ps ≡ 0 → entries_at (set slots q e) ps ≡ entries_at slots ps
entries_other slots [] q e none = refl
entries_other slots (p ∷ ps) q e none = grind (arith, common_steps, nat_tests, entries_other slots ps q e (omega arith))

pub entries_set : (slots : Entries) (ps : List ℕ) (q : ℕ) (e : Key × Rec) (i : ℕ) → q < length slots → times q ps ≤ 1 → i < length ps → get_or ps i no_node ≡ q
    → entries_at (set slots q e) ps ≡ set (entries_at slots ps) i e
entries_set slots [] q e i inside once within is = absurd (omega arith)
entries_set slots (p ∷ ps) q e zero inside once within is = grind (arith, common_steps, nat_tests, entries_other)
entries_set slots (p ∷ ps) q e (suc i) inside once within is = grind (arith, common_steps, nat_tests, entries_set slots ps q e i inside (omega arith) (omega arith) is, counted)

pub entries_grown : (slots more : Entries) (ps : List ℕ) → ((q : ℕ) → 1 ≤ times q ps → q < length slots) → entries_at (slots ++ more) ps ≡ entries_at slots ps
entries_grown slots more [] within = refl
entries_grown slots more (p ∷ ps) within =
    ap (λ (x : Key × Rec). x ∷ entries_at (slots ++ more) ps) (get_or_append_left slots more _ p (within p (omega (arith, one_if_same p p refl))))
    ∙ ap (λ (l : Entries). entry_at slots p ∷ l) (entries_grown slots more ps (λ q one. within q (omega arith)))

-- what holds of all entries of a tree holds of the one at each of its places
pub all_places : (P : Key × Rec → Type 0) (slots : Entries) (ps : List ℕ) (q : ℕ) → AllByRecursion P (entries_at slots ps) → 1 ≤ times q ps
    → P (entry_at slots q)
all_places P slots [] q all one = absurd (omega arith)
all_places P slots (p ∷ ps) q all one =
    elim (cases_eq q p) [
      | inl same ↦ subst (λ (k : ℕ). P (entry_at slots k)) (sym same) all.0
      | inr differs ↦ all_places P slots ps q all.1 (omega (arith, none_if_differs q p differs))
    ]

without_place : (key : Key) (slots : Entries) (ps : List ℕ) (q : ℕ) → AreWithout key (entries_at slots ps) → 1 ≤ times q ps → (entry_at slots q).0 ≢ key
without_place key slots [] q all one = absurd (omega arith)
without_place key slots (p ∷ ps) q all one = grind (arith, common_steps, nat_tests, without_place key slots ps q all.1, none_if_differs)

-- ---- a key that isn't there

pub absent_without : (key : Key) (es : Entries) → AreWithout key es → record_of_key key es ≡ None
absent_without key [] all = refl
absent_without key (e ∷ es) all = grind (arith, common_steps, nat_tests, absent_without key es all.1, test_other)

pub without_absent : (key : Key) (es : Entries) → record_of_key key es ≡ None → AreWithout key es
without_absent key [] none = tt
without_absent key (e ∷ es) none = grind (arith, common_steps, nat_tests, without_absent key es, test_same, test_other)

-- ---- the place of a key among those that came

module _ {K : Type 0} (p : K → Bool) where
  position_at : (ks : List K) (i : ℕ) (d : K) → i < length ks → p (get_or ks i d) ≡ true → ((j : ℕ) → j < i → p (get_or ks j d) ≡ false) → position_or_len p ks ≡ i
  position_at [] i d within here before = absurd (omega arith)
  position_at (k ∷ ks) zero d within here before = ap (λ b. cond (not b) (1 + position_or_len p ks) 0) here
  position_at (k ∷ ks) (suc i) d within here before = grind (arith, common_steps, nat_tests, before 0 (omega arith), position_at ks i d (omega arith) here (λ j lt. before (suc j) (omega arith)))

  position_past : (ks : List K) (d : K) → ((j : ℕ) → j < length ks → p (get_or ks j d) ≡ false) → position_or_len p ks ≡ length ks
  position_past [] d all = refl
  position_past (k ∷ ks) d all = grind (arith, common_steps, nat_tests, all 0 (omega arith), position_past ks d (λ j lt. all (suc j) (omega arith)))

  some_position : (ks : List K) (i : ℕ) (d : K) → i < length ks → p (get_or ks i d) ≡ true → ((j : ℕ) → j < i → p (get_or ks j d) ≡ false) → position p ks ≡ Some i
  some_position ks i d within here before = grind (arith, common_steps, nat_tests, position_at)

  no_position : (ks : List K) (d : K) → ((j : ℕ) → j < length ks → p (get_or ks j d) ≡ false) → position p ks ≡ None
  no_position ks d all = grind (arith, common_steps, nat_tests, position_past ks d all)

pub place_here : (ks : List Key) (key : Key) (i : ℕ) → AreApart ks → 1 ≤ length key → i < length ks
    → get_or ks i [] ≡ key → place_in key ks ≡ Some i
place_here ks key i distinct key_least within is =
    some_position (is_there key) ks i [] within (there_same key (get_or ks i []) (omega (arith, key_least, ap length is)) (sym is))
    (λ j lt. there_other key (get_or ks j []) (λ some same. distinct j i lt within (omega (arith, ap length is)) (sym same ∙ sym is)))

pub place_nowhere : (ks : List Key) (key : Key) → ((j : ℕ) → j < length ks → 1 ≤ length (get_or ks j []) → get_or ks j [] ≢ key)
    → place_in key ks ≡ None
place_nowhere ks key all = no_position (is_there key) ks [] (λ j lt. there_other key (get_or ks j []) (λ some is. all j lt some (sym is)))

pub places_kept : (ks : List Key) (key other : Key) → IsSome (place_in other ks) → place_in other (arrived_with key ks) ≡ place_in other ks
places_kept ks key other there = grind (arith, common_steps, nat_tests)

pub key_at : (slots : Entries) (i : ℕ) → i < length slots → get_or (keys_of slots) i [] ≡ (entry_at slots i).0
key_at slots i within = get_or-map (λ (e : Key × Rec). e.0) slots i _ [] within

keys_set : (slots : Entries) (p : ℕ) (e : Key × Rec) → p < length slots → e.0 ≡ (entry_at slots p).0 → keys_of (set slots p e) ≡ keys_of slots
keys_set [] p e within is = absurd (omega arith)
keys_set (x ∷ slots) zero e within is = ap (λ (k : Key). k ∷ keys_of slots) is
keys_set (x ∷ slots) (suc p) e within is = ap (λ (l : List Key). x.0 ∷ l) (keys_set slots p e (omega arith) is)

-- the entry that came last
pub grown_entry : (slots : Entries) (key : Key) (rec : Rec) → entry_at (slots ++ (key, rec) ∷ []) (length slots) ≡ (key, rec)
grown_entry slots key rec = ap (λ n. entry_at (slots ++ (key, rec) ∷ []) n) (omega arith) ∙ get_or-append-add slots ((key, rec) ∷ []) 0 ([], Tomb)

-- ---- a table

module _ (nodes : List Node) (slots : Entries) (root : ℕ) (floor : Option Key) (kept dropped reserved node_places : ℕ)
    (a : IsArena nodes slots root floor kept dropped reserved node_places) where
  -- the lightest entries, as many as there are places, weigh no more than what is there and what was dropped
  pub slots_least : 14 * length slots ≤ kept + dropped
  slots_least = omega (
    arith,
    a.vacant_places,
    least_total (tree_entries nodes slots root) a.table.keys,
    a.table.weight_is,
    length-map (places (tree_at nodes root)) (entry_at slots),
  )

  -- fewer than there are numbers
  pub few_slots : length slots < no_node
  few_slots = omega (arith, slots_least, a.table.fits, a.numbered)

  pub places_few : length (places (tree_at nodes root)) < no_node
  places_few = omega (
    arith,
    least_total (tree_entries nodes slots root) a.table.keys,
    a.table.weight_is,
    a.table.fits,
    a.numbered,
    length-map (places (tree_at nodes root)) (entry_at slots),
  )

  pub tree_there : IsTree nodes slots root
  tree_there = record { few = omega (arith, few_slots, a.as_many); as_many = a.as_many; holds = a.holds; sorted = a.table.sorted }

  -- a place of the tree isn't vacant
  pub key_kept : (q : ℕ) → 1 ≤ times q (places (tree_at nodes root)) → 1 ≤ length (entry_at slots q).0
  key_kept q one = all_places (λ e. 1 ≤ length e.0) slots (places (tree_at nodes root)) q a.table.keys one

  -- ---- looking up

  pub placed_at : (key : Key) (p : ℕ) → IsPlaced slots (places (tree_at nodes root)) key p → place_in key (keys_of slots) ≡ Some p
  placed_at key p found =
      place_here (keys_of slots) key p a.distinct
      (omega (arith, key_kept p (counted p found.index (places (tree_at nodes root)) found.within found.there), ap length found.key_is))
      (omega (arith, found.in_range, length-map slots (λ (e : Key × Rec). e.0))) (key_at slots p found.in_range ∙ found.key_is)

  pub placed : (key : Key) (r : Option ℕ) → IfSome r (IsPlaced slots (places (tree_at nodes root)) key)
      → IfNone r (AreWithout key (tree_entries nodes slots root)) → r ≡ place_in key (keys_of slots)
  placed key None found absent =
      sym (place_nowhere (keys_of slots) key (λ j lt some is.
      let inside : j < length slots = omega (arith, length-map slots (λ (e : Key × Rec). e.0)) in
      let there : 1 ≤ length (entry_at slots j).0 = omega (arith, some, ap length (key_at slots j inside)) in
      without_place key slots (places (tree_at nodes root)) j absent (a.there j there) (sym (key_at slots j inside) ∙ is)))
  placed key (Some p) found absent = sym (placed_at key p found)

  pub record IsFoundAt (key : Key) (p : ℕ) : Type 0 where
    pub in_range : p < length slots
    pub key_is : (entry_at slots p).0 ≡ key
    pub key_least : 1 ≤ length key

  pub found_at : (key : Key) (p : ℕ) → place_in key (keys_of slots) ≡ Some p → IsFoundAt key p
  found_at key p is =
      let parts = position-Some (is_there key) (keys_of slots) p [] is in
      let same = same_there key (get_or (keys_of slots) p []) parts.1 in
      let inside : p < length slots = omega (arith, parts.0, length-map slots (λ (e : Key × Rec). e.0)) in
      record {
        in_range = inside;
        key_is = sym (key_at slots p inside) ∙ sym same.0;
        key_least = omega (arith, same.1, ap length same.0);
      }

  -- it isn't vacant, so it is one of the tree
  pub index_at : (key : Key) (p : ℕ) → place_in key (keys_of slots) ≡ Some p → HasIndex p (places (tree_at nodes root))
  index_at key p is =
      let f = found_at key p is in
      index_of p (places (tree_at nodes root)) (a.there p (omega (arith, f.key_least, ap length f.key_is)))

  pub recorded : (key : Key) (p : ℕ) (d : Key × Rec) → place_in key (keys_of slots) ≡ Some p
      → record_of_key key (tree_entries nodes slots root) ≡ Some (get_or slots p d).1
  recorded key p d is =
      let f = found_at key p is in
      let has = index_at key p is in
      present_at (tree_entries nodes slots root) key has.index d a.table.sorted (is_at slots (places (tree_at nodes root)) p key has f.key_is)
      ∙ ap (λ (e : Key × Rec). Some e.1) (entry_is slots (places (tree_at nodes root)) p has d ∙ get_or_default slots p _ d f.in_range)

  pub none_iff : (key : Key) (r : Option ℕ) → r ≡ place_in key (keys_of slots)
      → IfNone r (AreWithout key (tree_entries nodes slots root)) → IsNone r ↔ (record_of_key key (tree_entries nodes slots root) ≡ None)
  none_iff key None is absent = (λ none. absent_without key (tree_entries nodes slots root) absent, λ none. refl)
  none_iff key (Some p) is absent = grind (arith, common_steps, nat_tests, recorded key p ([], Tomb) (sym is))

  -- ---- how many comparisons a search makes

  pub steps_few : (s : ℕ) → s ≤ height_of nodes root → 1 ≤ length (tree_entries nodes slots root) → 2 ^ s ≤ 4 * length (tree_entries nodes slots root) * length (tree_entries nodes slots root)
  steps_few s low some =
      few (tree_at nodes root) s (length (tree_entries nodes slots root)) a.balanced (sym (length-map (places (tree_at nodes root)) (entry_at slots)))
      (omega (arith, stored nodes root (tree_at nodes root) tree_there.few a.holds)) some

  pub steps_none : (s : ℕ) → s ≤ height_of nodes root → length (tree_entries nodes slots root) ≡ 0 → s ≡ 0
  steps_none s low none =
      omega (
        arith,
        stored nodes root (tree_at nodes root) tree_there.few a.holds,
        height_le (tree_at nodes root),
        length-map (places (tree_at nodes root)) (entry_at slots),
      )

  -- ---- a record folded over the one at a place

  module _ (key : Key) (p : ℕ) (is : place_in key (keys_of slots) ≡ Some p) where
    pub entry_kept : HasEntry slots p
    entry_kept = omega (arith, (found_at key p is).key_least, ap length (found_at key p is).key_is)

    pub before_le : weight key (entry_at slots p).1 ≤ kept
    before_le =
        let f = found_at key p is in
        let has = index_at key p is in
        let at = is_at slots (places (tree_at nodes root)) p key has f.key_is in
        omega (
          arith,
          weight_at_le (tree_entries nodes slots root) key has.index ([], Tomb) at,
          a.table.weight_is,
          ap (λ (e : Key × Rec). weight key e.1) (entry_is slots (places (tree_at nodes root)) p has ([], Tomb)),
        )

    module _ (e : Key × Rec) (key_is : e.0 ≡ key) where
      pub entries_folded : (rec : Rec) → e.1 ≡ fold rec (entry_at slots p).1
          → tree_entries nodes (set slots p e) root ≡ with_record key rec (tree_entries nodes slots root)
      entries_folded rec folded_is =
          let f = found_at key p is in
          let has = index_at key p is in
          let at = is_at slots (places (tree_at nodes root)) p key has f.key_is in
          let older : (get_or (tree_entries nodes slots root) has.index e).1 ≡ (entry_at slots p).1 =
          ap (λ (x : Key × Rec). x.1) (entry_is slots (places (tree_at nodes root)) p has e) in
          entries_set slots (places (tree_at nodes root)) p e has.index f.in_range (a.once p) has.within has.there
          ∙ ap (λ (k : Key). set (tree_entries nodes slots root) has.index (k, e.1)) key_is
          ∙ ap (λ (r : Rec). set (tree_entries nodes slots root) has.index (key, r)) (folded_is ∙ ap (fold rec) (sym older))
          ∙ sym (with_record_at (tree_entries nodes slots root) key rec has.index e a.table.sorted at)

      pub slots_folded : (before after : ℕ) → before ≡ weight key (entry_at slots p).1 → after ≡ weight key e.1
          → entries_weight (set slots p e) + before ≡ entries_weight slots + after
      slots_folded before after before_is after_is =
          let f = found_at key p is in
          omega (
            arith,
            sum_by-set (λ (x : Key × Rec). weight x.0 x.1) slots p e ([], Tomb) f.in_range,
            before_is,
            after_is,
            ap (λ (k : Key). weight k (entry_at slots p).1) f.key_is,
            ap (λ (k : Key). weight k e.1) key_is,
          )

      pub arena_folded : (rec : Rec) (before after : ℕ) → e.1 ≡ fold rec (entry_at slots p).1 → is_above floor key ≡ true
          → entries_weight (with_record key rec (tree_entries nodes slots root)) + dropped ≤ reserved
          → before ≡ weight key (entry_at slots p).1 → after ≡ weight key (fold rec (entry_at slots p).1)
          → IsArena nodes (set slots p e) root floor (kept - before + after) dropped reserved node_places
      arena_folded rec before after folded_is high fits before_is after_is =
          let f = found_at key p is in
          let has = index_at key p is in
          let at = is_at slots (places (tree_at nodes root)) p key has f.key_is in
          let older : (get_or (tree_entries nodes slots root) has.index e).1 ≡ (entry_at slots p).1 =
          ap (λ (x : Key × Rec). x.1) (entry_is slots (places (tree_at nodes root)) p has e) in
          let table = table_at (tree_entries nodes slots root) floor kept dropped reserved node_places key rec has.index e before after a.table at
          f.key_least high fits
          (before_is ∙ ap (weight key) (sym older)) (after_is ∙ ap (λ (r : Rec). weight key (fold rec r)) (sym older)) in
          let same_keys : keys_of (set slots p e) ≡ keys_of slots = keys_set slots p e f.in_range (key_is ∙ sym f.key_is) in
          let len : length (set slots p e) ≡ length slots = length-set slots p e in
          record {
            table = subst (λ (es : Entries). IsTable es floor (kept - before + after) dropped reserved node_places)
                (sym (entries_folded rec folded_is)) table;
            slots_weight = omega (
              arith,
              slots_folded before after before_is (after_is ∙ ap (weight key) (sym folded_is)),
              a.slots_weight,
              before_le,
              before_is,
            );
            vacant_places = omega (arith, a.vacant_places);
            numbered = a.numbered;
            as_many = omega (arith, a.as_many);
            once = a.once;
            there = λ q one.
                elim (cases_eq q p) [
                  | inl same ↦ subst (λ (k : ℕ). 1 ≤ times k (places (tree_at nodes root))) (sym same) (a.there p entry_kept)
                  | inr differs ↦ a.there q (omega (arith, ap (λ (x : Key × Rec). length x.0) (get_or-set_other slots p q e ([], Tomb) differs)))
                ];
            holds = a.holds;
            balanced = a.balanced;
            distinct = subst AreApart (sym same_keys) a.distinct;
          }

      pub arrived_folded : keys_of (set slots p e) ≡ arrived_with key (keys_of slots)
      arrived_folded = keys_set slots p e (found_at key p is).in_range (key_is ∙ sym (found_at key p is).key_is)
          ∙ sym (ap (λ (r : Option ℕ). cond (is_some r) (keys_of slots) (keys_of slots ++ key ∷ [])) is)

  -- ---- one entry more

  module _ (key : Key) (rec : Rec) (absent : record_of_key key (tree_entries nodes slots root) ≡ None) (key_least : 1 ≤ length key)
      (high : is_above floor key ≡ true)
      (fits : entries_weight (with_record key rec (tree_entries nodes slots root)) + dropped ≤ reserved) where
    pub record Gap : Type 0 where
      pub index : ℕ
      pub gap : IsGapFor (tree_entries nodes slots root) key index

    pub gap_for : Gap
    gap_for =
        elim (place_of (tree_entries nodes slots root) key (sorted_test (tree_entries nodes slots root) a.table.sorted)) [
          | inl p ↦
              let there : Some (get_or (tree_entries nodes slots root) p.0 (key, rec)).1 ≡ None = sym (present_at (tree_entries nodes slots root) key p.0 (key, rec) a.table.sorted p.1) ∙ absent in
              cc
          | inr p ↦ record { index = p.0; gap = p.1 }
        ]

    all_weight : kept + weight key rec + dropped ≤ reserved
    all_weight = omega (arith, a.table.weight_is, total_apart (tree_entries nodes slots root) key rec gap_for.index gap_for.gap, fits)

    -- there is a place for it
    pub grown_place : 14 * (length slots + 1) ≤ reserved
    grown_place = omega (arith, slots_least, all_weight, key_least)

    pub node_left : length nodes < node_places
    node_left = omega (arith, grown_place, a.as_many, a.table.room)

    pub grown_weight : entries_weight (slots ++ (key, rec) ∷ []) ≡ entries_weight slots + weight key rec
    grown_weight = grind (arith, common_steps, nat_tests, sum_by-append)

    pub grown_fits : entries_weight (slots ++ (key, rec) ∷ []) ≤ reserved
    grown_fits = omega (arith, grown_weight, a.slots_weight, all_weight)

    pub number_left : length slots + 1 < no_node
    number_left = omega (arith, grown_place, a.numbered)

    -- the tree among one node and one entry more
    module _ (node : Node) where
      grown_holds : Holds (nodes ++ node ∷ []) root (tree_at nodes root)
      grown_holds = grind (arith, common_steps, nat_tests, stays, length-append, get_or_append_left, within_nodes)

      few_nodes : length (nodes ++ node ∷ []) ≤ no_node
      few_nodes = omega (arith, length-append nodes (node ∷ []), a.as_many, number_left)

      pub grown_is : tree_at (nodes ++ node ∷ []) root ≡ tree_at nodes root
      grown_is = read (nodes ++ node ∷ []) root (tree_at nodes root) few_nodes grown_holds

      pub entries_same : tree_entries (nodes ++ node ∷ []) (slots ++ (key, rec) ∷ []) root ≡ tree_entries nodes slots root
      entries_same = grind (arith, common_steps, nat_tests, grown_is, entries_grown, within_nodes)

      pub grown_tree : IsTree (nodes ++ node ∷ []) (slots ++ (key, rec) ∷ []) root
      grown_tree = grind (arith, common_steps, nat_tests, few_nodes, grown_is, grown_holds, entries_same)

      new_entry : entry_at (slots ++ (key, rec) ∷ []) (length slots) ≡ (key, rec)
      new_entry = grown_entry slots key rec

      pub grown_new : IsNew (nodes ++ node ∷ []) (slots ++ (key, rec) ∷ []) root (length slots)
      grown_new = grind (arith, common_steps, nat_tests, grown_is, within_nodes, a.once, entries_same, new_entry, without_absent)

      pub grown_balanced : IsBalanced (tree_at (nodes ++ node ∷ []) root)
      grown_balanced = subst IsBalanced (sym grown_is) a.balanced

      pub grown_low : height_of (nodes ++ node ∷ []) root + 1 < 4294967296
      grown_low = omega (
        arith,
        stored (nodes ++ node ∷ []) root (tree_at nodes root) few_nodes grown_holds,
        height_le (tree_at nodes root),
        places_few,
      )

      module _ (after : List Node) (top : ℕ) (added : IsAdded (nodes ++ node ∷ []) after (slots ++ (key, rec) ∷ []) root (length slots) top) (len : length after ≡ length (nodes ++ node ∷ [])) where
        pub entries_added : tree_entries after (slots ++ (key, rec) ∷ []) top ≡ with_record key rec (tree_entries nodes slots root)
        entries_added = grind (arith, common_steps, nat_tests, new_entry, entries_same)

        pub arrived_added : place_in key (keys_of slots) ≡ None → keys_of (slots ++ (key, rec) ∷ []) ≡ arrived_with key (keys_of slots)
        arrived_added nowhere = grind (arith, common_steps, nat_tests)

        pub arena_added : (more grown_nodes : ℕ) → more ≡ weight key rec → node_places ≤ grown_nodes
            → IsArena after (slots ++ (key, rec) ∷ []) top floor (kept + more) dropped reserved grown_nodes
        arena_added more grown_nodes more_is nodes_more =
            let lens = length-append slots ((key, rec) ∷ []) in
            let same = λ (q : ℕ). ap (λ (t : Tree). times q (places t)) grown_is in
            record {
              table =
                  subst (λ (es : Entries). IsTable es floor (kept + more) dropped reserved grown_nodes) (sym entries_added)
                  (table_apart (tree_entries nodes slots root) floor kept dropped reserved node_places grown_nodes key rec gap_for.index more a.table
                  gap_for.gap key_least high fits more_is nodes_more);
              slots_weight = omega (arith, grown_weight, a.slots_weight, more_is);
              vacant_places = omega (arith, a.vacant_places, added.one_more, ap (λ (t : Tree). length (places t)) grown_is);
              numbered = a.numbered;
              as_many = omega (arith, a.as_many, length-append nodes (node ∷ []));
              once = λ q. omega (arith, added.places_are q, grown_new.apart q);
              there = λ q one.
                  elim (cases_lt q (length slots)) [
                    | inl before ↦ omega (
                      arith,
                      added.places_are q,
                      same q,
                      a.there q (omega (
                        arith,
                        ap (λ (e : Key × Rec). length e.0)
                            (get_or_append_left slots ((key, rec) ∷ []) ([], Tomb) q before),
                      )),
                    )
                    | inr behind ↦
                        elim (cases_eq q (length slots)) [
                          | inl is ↦ omega (arith, added.places_are q, one_if_same q (length slots) is)
                          | inr differs ↦ absurd (omega (
                            arith,
                            ap (λ (e : Key × Rec). length e.0)
                                (get_or_past (slots ++ (key, rec) ∷ []) q ([], Tomb) (omega arith)),
                          ))
                        ]
                  ];
              holds = added.holds;
              balanced = added.balanced;
              distinct = subst AreApart (sym (map-append (λ (e : Key × Rec). e.0) slots ((key, rec) ∷ []))) apart_keys;
            }
          where
            apart_keys : AreApart (keys_of slots ++ key ∷ [])
            apart_keys i j lt within some is =
                let len_keys = length-map slots (λ (e : Key × Rec). e.0) in
                let len_more = length-append (keys_of slots) (key ∷ []) in
                let at_i : get_or (keys_of slots ++ key ∷ []) i [] ≡ get_or (keys_of slots) i [] = get_or_append_left (keys_of slots) (key ∷ []) [] i (omega arith) in
                elim (cases_lt j (length (keys_of slots))) [
                  | inl before ↦
                      let at_j : get_or (keys_of slots ++ key ∷ []) j [] ≡ get_or (keys_of slots) j [] =
                      get_or_append_left (keys_of slots) (key ∷ []) [] j before in
                      a.distinct i j lt before (omega (arith, some, ap length at_j)) (sym at_i ∙ is ∙ at_j)
                  | inr last ↦
                      let at_j : get_or (keys_of slots ++ key ∷ []) j [] ≡ key =
                      ap (λ n. get_or (keys_of slots ++ key ∷ []) n []) (omega arith) ∙ get_or-append-add (keys_of slots) (key ∷ []) 0 [] in
                      let inside : i < length slots = omega arith in
                      let key_is : (entry_at slots i).0 ≡ key = sym (key_at slots i inside) ∙ sym at_i ∙ is ∙ at_j in
                      without_place key slots (places (tree_at nodes root)) i (without_absent key (tree_entries nodes slots root) absent)
                      (a.there i (omega (arith, key_least, ap length key_is))) key_is
                ]

-- a lent list that is put back whole
pub put_back : {A : Type 0} (n : ℕ) (xs ys : List A) → length xs ≡ length ys → n ≡ length ys → take n (xs ++ drop (length xs) ys) ≡ xs
put_back n xs ys len is = grind (arith, common_steps, nat_tests)

-- ---- an empty table

pub arena_empty : (reserved node_places : ℕ) → reserved < least_weight * (node_places + 1) → reserved < least_weight * no_node
    → IsArena [] [] no_node None 0 0 reserved node_places
arena_empty reserved node_places nodes_fit numbered =
    let bare : tree_at [] no_node ≡ Leaf = read [] no_node Leaf (omega arith) refl in
    record {
      table =
          subst (λ (t : Tree). IsTable (entries_at [] (places t)) None 0 0 reserved node_places) (sym bare)
          (record { sorted = refl; above_floor = tt; weight_is = refl; fits = omega arith; keys = tt; room = nodes_fit });
      slots_weight = omega arith;
      vacant_places = omega arith;
      numbered = numbered;
      as_many = refl;
      once = λ q. omega (arith, ap (λ (t : Tree). times q (places t)) bare);
      there = λ q one. absurd (omega arith);
      holds = subst (λ (t : Tree). Holds [] no_node t) (sym bare) refl;
      balanced = subst IsBalanced (sym bare) tt;
      distinct = λ i j lt within some. absurd (omega arith);
    }

pub entries_empty : tree_entries [] [] no_node ≡ []
entries_empty = ap (λ (t : Tree). entries_at [] (places t)) (read [] no_node Leaf (omega arith) refl)

-- ---- the next entry above a key

or_none : (r : Option ℕ) → or_else r None ≡ r
or_none r = grind (arith, common_steps, nat_tests)

first_none : (slots : Entries) (low : Option Key) (qs : List ℕ) → place_above slots low qs ≡ None → first_of (above low (entries_at slots qs)) ≡ None
first_none slots low [] is = refl
first_none slots low (q ∷ qs) is = grind (arith, common_steps, nat_tests, first_none slots low qs)

first_some : (slots : Entries) (low : Option Key) (qs : List ℕ) (p : ℕ) → place_above slots low qs ≡ Some p → (first_of (above low (entries_at slots qs)) ≡ Some (entry_at slots p)) × (1 ≤ times p qs)
first_some slots low [] p is = cc
first_some slots low (q ∷ qs) p is = grind (arith, common_steps, nat_tests, first_some slots low qs p, one_if_same)

module _ (nodes : List Node) (slots : Entries) (root : ℕ) (tree : IsTree nodes slots root) (low : Option Key) (r : Option ℕ) (is : r ≡ or_else (place_above slots low (places (tree_at nodes root))) None) where
  next_is : place_above slots low (places (tree_at nodes root)) ≡ r
  next_is = sym (is ∙ or_none (place_above slots low (places (tree_at nodes root))))

  pub least_none : r ≡ None → first_of (above low (tree_entries nodes slots root)) ≡ None
  least_none none = first_none slots low (places (tree_at nodes root)) (next_is ∙ none)

  pub least_some : (p : ℕ) → r ≡ Some p
      → (first_of (above low (tree_entries nodes slots root)) ≡ Some (entry_at slots p)) × (p < length slots) ×
      (1 ≤ times p (places (tree_at nodes root)))
  least_some p some =
      let first = first_some slots low (places (tree_at nodes root)) p (next_is ∙ some) in
      (first.0, omega (arith, within_nodes nodes root (tree_at nodes root) p tree.holds first.1, tree.as_many), first.1)
