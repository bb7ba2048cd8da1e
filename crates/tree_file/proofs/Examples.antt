-- The tree of a store that was just made, the map of a tree that has a record of one key in each of its lists, and what is no tree.
use Rattle.std.proofs.Common.{◌≡◌, ℕ, ◌+◌, ◌<◌, List, [], ◌∷◌, ◌++◌, length, false, take, refl, ap, sym, subst, codes, arith}
use Rattle.std.specs.Prelude.{nat_eq}
use Rattle.std.specs.List.{IsDistinct}
use Rattle.std.proofs.lemmas.Bool.{false≢true}
use Rattle.gated_write.specs.Gated.{open_byte}
use Rattle.gated_log.specs.Lane.{Lane, no_lane}
use Rattle.blsm_model.specs.Sizes.{Sizes, IsGeometry, default_sizes}
use Rattle.blsm_model.specs.Geometry.{c1_mark, capacity, high_mark}
use Rattle.blsm_model.specs.declared.key.Key.{Key}
use Rattle.record_delta.specs.declared.record.Rec.{Rec}
use Rattle.record_delta.specs.declared.record.Rec.TheVariants.{Base, Delta, Tomb}
use Rattle.record_delta.specs.Entries.{Entries, entries_weight, replayed}
use Rattle.page_file.specs.Component.{RunPage, entries_of}
use Rattle.catalog_swap.specs.declared.catalog.Progress.{Progress}
use Rattle.catalog_swap.specs.Text.{first_catalog}
use Rattle.store_file.specs.Layout.{first_file}
use Rattle.store_file.proofs.LayoutLemmas.{first_file_made}
use Rattle.tree_file.specs.Output.{IsOutputOf}
use Rattle.tree_file.specs.Tree.{Tree, IsNamed, HoldsTree, FitsSizes, ReadsAsMap, first_tree, map_of_tree}
use Rattle.tree_file.specs.Places.{with_components, with_pass}
use Rattle.tree_file.proofs.OneTree.{one_tree, first_holds, first_map}

-- ---- a store that was just made

default_geometry : IsGeometry default_sizes
default_geometry = record { half = (omega arith, omega arith); ratio = (omega arith, omega arith); low = omega arith; quantum = (omega arith, omega arith) }

made_is_empty : HoldsTree default_sizes first_tree (first_file open_byte default_sizes)
made_is_empty = first_holds default_sizes (first_file open_byte default_sizes) (first_file_made default_sizes default_geometry)

made_reads_empty : ReadsAsMap default_sizes [] (first_file open_byte default_sizes)
made_reads_empty = first_map default_sizes (first_file open_byte default_sizes) (first_file_made default_sizes default_geometry)

-- it holds no tree whose lane A has an entry
none_is_some : (e : Key × Rec) → ◌≡◌ {A = Entries} [] (e ∷ []) → ⊥
none_is_some e same = cc (same)

-- a lane of these entries, each a record of its own
abbrev lane : Entries → Lane
lane entries = record { entries = entries; end = entries_weight entries + length entries }

made_has_no_entry : (e : Key × Rec) → HoldsTree default_sizes (record first_tree { lane_a = lane (e ∷ []) }) (first_file open_byte default_sizes) → ⊥
made_has_no_entry e holds =
    none_is_some e (ap (λ (t : Tree). t.lane_a.entries)
    (one_tree default_sizes first_tree (record first_tree { lane_a = lane (e ∷ []) }) (first_file open_byte default_sizes) made_is_empty holds))

-- ---- one key in each list

abbrev k : Key
k = codes "k"

abbrev added : ℕ → Entries
added count = (k, Delta (record { count = count; text = [] })) ∷ []

abbrev page : ℕ → Entries → RunPage
page number entries = record { number = number; entries = entries }

-- a base of count 1 in C2, and counts added in each newer list, twice in lane A
abbrev five : Tree
five = record {
  catalogue = first_catalog;
  c1 = page 0 (added 100) ∷ [];
  c1x = page 1 (added 10) ∷ [];
  c2 = page 2 ((k, Base (record { count = 1; text = codes "old" })) ∷ []) ∷ [];
  output = [];
  lane_a = lane (added 1000 ++ added 1000);
  lane_b = lane (added 30000);
}

five_shows : map_of_tree five ≡ (k, record { count = 32111; text = codes "old" }) ∷ []
five_shows = refl

-- Lane B is newer than lane A: an add behind a del counts from 0, and a del behind an add leaves nothing.
add_behind_del : map_of_tree (record five { lane_a = lane ((k, Tomb) ∷ []); lane_b = lane (added 7) }) ≡ (k, record { count = 7; text = [] }) ∷ []
add_behind_del = refl

del_behind_add : map_of_tree (record five { lane_a = lane (added 7); lane_b = lane ((k, Tomb) ∷ []) }) ≡ []
del_behind_add = refl

-- within a lane the later record is the newer
add_behind_del_in_lane : map_of_tree (record five { lane_a = lane ((k, Tomb) ∷ added 7); lane_b = no_lane })
    ≡ (k, record { count = 7; text = [] }) ∷ []
add_behind_del_in_lane = refl

-- The swap of the deep merge puts C1' and C2 together: the map stays.
deep_swapped : map_of_tree (with_components first_catalog five.c1 [] (page 3 ((k, Base (record { count = 11; text = codes "old" })) ∷ []) ∷ []) five) ≡ map_of_tree five
deep_swapped = refl

-- That of the pass puts lane A's table and C1 together and turns the lanes: the map stays. If lane A stayed its counts would count twice.
pass_swapped : map_of_tree (with_pass first_catalog (page 4 (added 2100) ∷ []) five.c1x five.c2 [] five) ≡ map_of_tree five
pass_swapped = refl

lane_counted_twice : map_of_tree (with_components first_catalog (page 4 (added 2100) ∷ []) five.c1x five.c2 five) ≡ (k, record { count = 34111; text = codes "old" }) ∷ []
lane_counted_twice = refl

-- ---- what is no tree

-- a page that is in two components
shared : Tree
shared = record first_tree { c1 = page 7 (added 1) ∷ []; c2 = page 7 (added 1) ∷ [] }

no_shared_page : (sizes : Sizes) (file : List ℕ) → HoldsTree sizes shared file → ⊥
unfolding shared IsDistinct
no_shared_page sizes file holds = false≢true (sym holds.apart.0.0)

-- an added count in C2
delta_below : Tree
delta_below = record first_tree { c2 = page 7 (added 1) ∷ [] }

no_delta_below : (sizes : Sizes) (file : List ℕ) → HoldsTree sizes delta_below file → ⊥
unfolding delta_below
no_delta_below sizes file holds = holds.bases.0

-- ---- what is no progress: all of the fold, and a next page that is C1's
no_whole_output : (sizes : Sizes) (progress : Progress) (file : List ℕ) → IsOutputOf sizes progress [] [] [] file → ⊥
no_whole_output sizes progress file is = is.more refl

one_page : Tree
one_page = record first_tree { c1 = page 7 (added 1) ∷ [] }

no_next_of_c1 : (sizes : Sizes) (progress : Progress) (file : List ℕ) → progress.next ≡ 7 → IsNamed sizes progress one_page file → ⊥
unfolding one_page IsDistinct
no_next_of_c1 sizes progress file is named = false≢true (sym (subst (λ (n : ℕ). nat_eq 7 n ≡ false) is named.apart.0.0))

-- ---- what doesn't fit: a C1 that weighs as much as its mark, and a front of lane B that passes the high mark over the whole of lane A
no_full_c1 : (sizes : Sizes) (tree : Tree) → entries_weight (entries_of tree.c1) ≡ c1_mark sizes → FitsSizes sizes tree → ⊥
no_full_c1 sizes tree full fits = omega (arith, full, fits.mark)

no_high_front : (sizes : Sizes) (tree : Tree) (n : ℕ)
    → high_mark sizes < entries_weight (replayed tree.lane_a.entries) + entries_weight (replayed (take n tree.lane_b.entries)) → FitsSizes sizes tree
    → ⊥
no_high_front sizes tree n high fits = omega (arith, high, fits.replays.high_b n)

-- and C1', which counts in the capacity
no_more_than_capacity : (sizes : Sizes) (tree : Tree)
    → capacity sizes < entries_weight (entries_of tree.c1) + entries_weight (entries_of tree.c1x) + entries_weight (entries_of tree.c2) → FitsSizes sizes tree → ⊥
no_more_than_capacity sizes tree more fits = omega (arith, more, fits.full)
