-- A file that holds a tree which fits has no place that isn't of the written form.
use Rattle.std.proofs.lemmas.Bool.Decides.{nat_tests}
use Rattle.std.proofs.lemmas.Grind.{common_steps}
use Rattle.std.proofs.Common.{◌≡◌, ℕ, ◌≤◌, List, [], ◌++◌, Option, Some, sym, subst, arith, true, false}
use Rattle.std.specs.Prelude.{nat_eq}
use Rattle.std.specs.List.{IsDistinct}
use Rattle.blsm_model.specs.Sizes.{Sizes}
use Rattle.blsm_model.specs.Lanes.{a_of}
use Rattle.page_file.specs.Component.{RunPage, entries_of, numbers_of}
use Rattle.page_file.proofs.PageLemmas.{few_pages}
use Rattle.page_file.proofs.ComponentLemmas.{one_component}
use Rattle.gated_log.specs.Lane as log
use Rattle.gated_log.specs.Lane.{HasEntries}
use Rattle.gated_log.proofs.OneList.{one_list}
use Rattle.catalog_swap.specs.declared.catalog.Catalog.{Catalog}
use Rattle.catalog_swap.specs.declared.catalog.Progress.{Progress}
use Rattle.catalog_swap.proofs.SlotLemmas.{one_newest, not_damaged}
use Rattle.tree_file.specs.Tree.{Tree, HoldsTree, FitsSizes}
use Rattle.tree_reading.specs.declared.found.Place.{Place}
use Rattle.tree_reading.specs.declared.found.Place.TheVariants.{Slots, Lane, Page}
use Rattle.blsm_model.specs.Components.{no_page}
use Rattle.blsm_model.specs.Geometry.{page_count}
use Rattle.page_file.specs.Component.{ReadsAs}
use Rattle.tree_reading.specs.Pages.{IsDamagedPage}
use Rattle.tree_reading.specs.Lane.{IsDamagedLane, StaysWithin}
use Rattle.tree_reading.specs.Damage.{
  AreDamagedSlots,
  FitsMarks,
  HasCatalogue,
  HasComponents,
  HasOutput,
  IsDamagedLog,
  IsDamagedPart,
  IsDamagedRun,
  IsFirstDamage,
  catalogue_weight,
  room_for_a,
  room_for_b,
  in_c1,
  in_c1x,
  in_c2,
  in_component,
  in_output,
  in_a,
  in_b,
  broken,
  heavy,
}
use Rattle.tree_reading.proofs.LaneLemmas.{no_damaged_lane}
use Rattle.tree_reading.proofs.NamedLemmas.{output_of}
use Rattle.output_reading.proofs.PagesLemmas.{distinct_front}
use Rattle.output_reading.proofs.RightLemmas.{none_departs}
use Rattle.tree_reading.proofs.PagesLemmas.{no_damaged_page}

pub fits_marks : (sizes : Sizes) (tree : Tree) (file : List ℕ) → HoldsTree sizes tree file → FitsSizes sizes tree → FitsMarks sizes tree.catalogue
fits_marks sizes tree file h1 h2 = grind (arith, common_steps, nat_tests)

stays_a : (sizes : Sizes) (tree : Tree) (file : List ℕ) → HoldsTree sizes tree file → FitsSizes sizes tree
    → StaysWithin (room_for_a sizes (catalogue_weight tree.catalogue)) tree.lane_a.entries
stays_a sizes tree file h1 h2 = grind (arith, common_steps, nat_tests)

stays_b : (sizes : Sizes) (tree : Tree) (file : List ℕ) → HoldsTree sizes tree file → FitsSizes sizes tree
    → StaysWithin (room_for_b sizes (catalogue_weight tree.catalogue) tree.lane_a.entries) tree.lane_b.entries
stays_b sizes tree file h1 h2 = grind (arith, common_steps, nat_tests)

-- a component that reads, apart from those before it, isn't the damaged one
pub c1_fine : (sizes : Sizes) (catalogue : Catalog) (c1 : List RunPage) (n : ℕ) (file : List ℕ) → page_count sizes ≤ no_page → ReadsAs sizes catalogue.c1 c1 file
    → IsDamagedPage sizes catalogue.c1 false [] n file → ⊥
c1_fine sizes catalogue c1 n file few reads damage = no_damaged_page sizes catalogue.c1 false [] n c1 file few reads reads.apart tt damage

pub c1x_fine : (sizes : Sizes) (catalogue : Catalog) (first c1 c1x : List RunPage) (n : ℕ) (file : List ℕ) → page_count sizes ≤ no_page → ReadsAs sizes catalogue.c1 first file
    → ReadsAs sizes catalogue.c1 c1 file → ReadsAs sizes catalogue.c1x c1x file → IsDistinct nat_eq (numbers_of c1 ++ numbers_of c1x)
    → IsDamagedPage sizes catalogue.c1x false (numbers_of first) n file → ⊥
c1x_fine sizes catalogue first c1 c1x n file few reads_first reads reads_x apart damage =
    no_damaged_page sizes catalogue.c1x false (numbers_of first) n c1x file few reads_x
    (subst (λ (l : List RunPage). IsDistinct nat_eq (numbers_of l ++ numbers_of c1x)) (one_component sizes catalogue.c1 c1 first file few reads reads_first) apart) tt damage

-- components that read are not damaged
pub run_fine : (sizes : Sizes) (catalogue : Catalog) (c1 c1x c2 : List RunPage) (n : ℕ) (file : List ℕ) → page_count sizes ≤ no_page → HasComponents sizes catalogue c1 c1x c2 file
    → IsDamagedRun sizes catalogue n file → ⊥
run_fine sizes catalogue c1 c1x c2 n file few has (in_c1 d) = c1_fine sizes catalogue c1 n file few has.c1_reads d
run_fine sizes catalogue c1 c1x c2 n file few has (in_c1x first reads d) =
    c1x_fine sizes catalogue first c1 c1x n file few reads has.c1_reads has.c1x_reads (distinct_front (numbers_of c1 ++ numbers_of c1x) (numbers_of c2) has.apart) d
run_fine sizes catalogue c1 c1x c2 n file few has (in_c2 first second reads reads_x d) =
    no_damaged_page sizes catalogue.c2 true (numbers_of first ++ numbers_of second) n c2 file few has.c2_reads
    (subst (λ (l : List RunPage). IsDistinct nat_eq ((numbers_of first ++ numbers_of l) ++ numbers_of c2)) (one_component sizes catalogue.c1x c1x second file few has.c1x_reads reads_x)
    (subst (λ (l : List RunPage). IsDistinct nat_eq ((numbers_of l ++ numbers_of c1x) ++ numbers_of c2)) (one_component sizes catalogue.c1 c1 first file few has.c1_reads reads) has.apart)) has.bases d

-- and neither are the finished pages that are named, where these are what they are to be
pub part_fine : (sizes : Sizes) (catalogue : Catalog) (c1 c1x c2 output : List RunPage) (n : ℕ) (file : List ℕ) → page_count sizes ≤ no_page
    → HasComponents sizes catalogue c1 c1x c2 file → HasOutput sizes catalogue.progress c1 c1x c2 output file → IsDamagedPart sizes catalogue n file
    → ⊥
part_fine sizes catalogue c1 c1x c2 output n file few has named (in_component d) = run_fine sizes catalogue c1 c1x c2 n file few has d
part_fine sizes catalogue c1 c1x c2 output n file few has named (in_output d1 d1x d2 had progress is d) =
    let one = one_component sizes catalogue.c1 c1 d1 file few has.c1_reads had.c1_reads in
    let onex = one_component sizes catalogue.c1x c1x d1x file few has.c1x_reads had.c1x_reads in
    let two = one_component sizes catalogue.c2 c2 d2 file few has.c2_reads had.c2_reads in
    let same = subst (λ (p : Option Progress). HasOutput sizes p c1 c1x c2 output file) is named in
    let there = subst (λ (l : List RunPage). HasOutput sizes (Some progress) d1 d1x l output file) two
    (subst (λ (l : List RunPage). HasOutput sizes (Some progress) d1 l c2 output file) onex
    (subst (λ (l : List RunPage). HasOutput sizes (Some progress) l c1x c2 output file) one same)) in
    none_departs sizes progress (entries_of d1x) (entries_of d2) (numbers_of d1 ++ numbers_of d1x ++ numbers_of d2) file few n output there.0 there.1
    d

pub a_fine : (sizes : Sizes) (catalogue : Catalog) (lane : ℕ) (of : log.Lane) (file : List ℕ) → lane ≡ a_of catalogue.lanes
    → HasEntries sizes (a_of catalogue.lanes) of file
    → StaysWithin (room_for_a sizes (catalogue_weight catalogue)) of.entries
    → IsDamagedLane sizes lane (room_for_a sizes (catalogue_weight catalogue)) file → ⊥
a_fine sizes catalogue lane of file is has within damage =
    no_damaged_lane sizes lane (room_for_a sizes (catalogue_weight catalogue)) of file
    (subst (λ k. HasEntries sizes k of file) (sym is) has) within damage

no_damaged_log : (sizes : Sizes) (tree : Tree) (lane : ℕ) (file : List ℕ) → HoldsTree sizes tree file → FitsSizes sizes tree → IsDamagedLog sizes tree.catalogue lane file → ⊥
no_damaged_log sizes tree lane file holds fits (in_a is d) =
    a_fine sizes tree.catalogue lane tree.lane_a file is holds.lane_a (stays_a sizes tree file holds fits) d
no_damaged_log sizes tree lane file holds fits (in_b is lane_a has within d) =
    let same : lane_a ≡ tree.lane_a = one_list sizes (a_of tree.catalogue.lanes) lane_a tree.lane_a file has holds.lane_a in
    no_damaged_lane sizes lane (room_for_b sizes (catalogue_weight tree.catalogue) lane_a.entries) tree.lane_b file
    (subst (λ k. HasEntries sizes k tree.lane_b file) (sym is) holds.lane_b)
    (subst (λ (l : log.Lane). StaysWithin (room_for_b sizes (catalogue_weight tree.catalogue) l.entries) tree.lane_b.entries) (sym same)
    (stays_b sizes tree file holds fits)) d

-- where the newest catalogue fits the slots aren't damaged
pub slots_fine : (sizes : Sizes) (catalogue : Catalog) (file : List ℕ) → HasCatalogue sizes catalogue file → AreDamagedSlots sizes file → ⊥
slots_fine sizes catalogue file has (broken damage) = not_damaged sizes catalogue file has.newest damage
slots_fine sizes catalogue file has (heavy other newest not_fits) =
    not_fits (subst (λ (c : Catalog). FitsMarks sizes c) (one_newest sizes catalogue other file has.newest newest) has.fits)

pub no_damage : (sizes : Sizes) (place : Place) (tree : Tree) (file : List ℕ) → IsFirstDamage sizes place file → HoldsTree sizes tree file → FitsSizes sizes tree → ⊥
no_damage sizes Slots tree file damage holds fits =
    slots_fine sizes tree.catalogue file (record { store = holds.store; newest = holds.newest; fits = fits_marks sizes tree file holds fits }) damage.1
no_damage sizes (Page n) tree file damage holds fits =
    part_fine sizes tree.catalogue tree.c1 tree.c1x tree.c2 tree.output n file (few_pages sizes holds.store.geometry)
    (record { c1_reads = holds.c1; c1x_reads = holds.c1x; c2_reads = holds.c2; apart = holds.apart; bases = holds.bases })
    (output_of sizes tree tree.catalogue.progress file holds.progress)
    (subst (λ (c : Catalog). IsDamagedPart sizes c n file) (one_newest sizes damage.0 tree.catalogue file damage.1.newest holds.newest) damage.3)
no_damage sizes (Lane n) tree file damage holds fits =
    no_damaged_log sizes tree n file holds fits
    (subst (λ (c : Catalog). IsDamagedLog sizes c n file) (one_newest sizes damage.0 tree.catalogue file damage.1.newest holds.newest) damage.9)
