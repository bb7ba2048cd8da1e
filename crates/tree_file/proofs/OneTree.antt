-- A file holds one tree at most; that of a store that was just made holds the empty one.
use Rattle.std.specs.Prelude.{◌≡◌, ◌↔◌, ℕ, ◌*◌, ◌≤◌, List, [], ◌∷◌, length, take, refl, nat_eq, Option, Some, None}
use Rattle.std.proofs.lemmas.Grind.{common_steps}
use Rattle.std.proofs.lemmas.Bool.Decides.{nat_tests}
use Rattle.std.specs.List.{IsDistinct}
use Rattle.std.proofs.Common.{sym, subst, ◌∙◌, ap, arith}
use Rattle.std.proofs.Math.Seq.{take-nil}
use Rattle.std.specs.List.Sorted.{IsStrictlySortedBy}
use Rattle.blsm_model.specs.Sizes.{Sizes, IsGeometry}
use Rattle.blsm_model.specs.Lanes.{a_of, b_of}
use Rattle.blsm_model.specs.Components.{empty_component, no_page}
use Rattle.blsm_model.specs.Geometry.{page_count}
use Rattle.blsm_model.specs.declared.key.Key.{Key}
use Rattle.blsm_model.specs.declared.row.Value.{Value}
use Rattle.blsm_model.specs.declared.component.Component.{Component}
use Rattle.blsm_model.proofs.GeometryLemmas.{half_below}
use Rattle.record_delta.specs.Entries.{Entries, entries_weight, replayed}
use Rattle.page_file.specs.Component.{RunPage, AreChained, ReadsAs, first_number}
use Rattle.page_file.specs.File.{page_at}
use Rattle.page_file.specs.Page.{IsPageOf, page_number}
use Rattle.page_file.proofs.PageLemmas.{few_pages, page_same}
use Rattle.page_file.proofs.ComponentLemmas.{one_component}
use Rattle.gated_log.specs.Lane.{Lane, HasEntries}
use Rattle.gated_log.proofs.OneList.{one_list}
use Rattle.catalog_swap.specs.declared.catalog.Catalog.{Catalog}
use Rattle.catalog_swap.specs.declared.catalog.Progress.{Progress}
use Rattle.catalog_swap.proofs.SlotLemmas.{one_newest, first_newest}
use Rattle.store_file.specs.Layout.{IsMade}
use Rattle.store_file.proofs.LayoutLaws.{only_sizes}
use Rattle.tree_file.specs.Tree.{Tree, HasProgress, HoldsTree, FitsSizes, ReadsAsMap, first_tree, map_of_tree}

-- ---- one tree

pub one_size : (a b : Sizes) (one other : Tree) (file : List ℕ) → HoldsTree a one file → HoldsTree b other file → a ≡ b
one_size a b one other file holds also = only_sizes a b file holds.store also.store

-- as many pages one behind the other, from the same one on, are the same
pub same_run : (sizes : Sizes) (ps qs : List RunPage) (end : Option ℕ) (file : List ℕ) → page_count sizes ≤ no_page → length ps ≡ length qs
    → page_number (first_number ps end) ≡ page_number (first_number qs end) → AreChained sizes ps end file → AreChained sizes qs end file → ps ≡ qs
same_run sizes [] [] end file few long first c d = refl
same_run sizes [] (q ∷ qs) end file few long first c d = absurd (omega (arith, long))
same_run sizes (p ∷ ps) [] end file few long first c d = absurd (omega (arith, long))
same_run sizes (p ∷ ps) (q ∷ qs) end file few long first c d =
    let other = subst (λ (n : ℕ). IsPageOf (page_count sizes) (first_number qs end) q.entries (page_at sizes n file)) (sym first) d.1 in
    let here = page_same (page_count sizes) (first_number ps end) (first_number qs end) p.entries q.entries (page_at sizes p.number file) few c.1 other in
    let more = same_run sizes ps qs end file few (omega (arith, long)) (ap page_number here.0) c.2 d.2 in
    λ i. record { number = first i; entries = here.1 i } ∷ more i

same_output : (sizes : Sizes) (progress : Option Progress) (one other : Tree) (file : List ℕ) → page_count sizes ≤ no_page → HasProgress sizes progress one file
    → HasProgress sizes progress other file → one.output ≡ other.output
same_output sizes None one other file few none also = none ∙ sym also
same_output sizes (Some progress) one other file few named also =
    let reads = named.output.reads in
    let other_reads = also.output.reads in
    same_run sizes one.output other.output (Some progress.next) file few (reads.pages_is ∙ sym other_reads.pages_is) (reads.first_is ∙ sym other_reads.first_is) reads.chained other_reads.chained

same_tree : (one other : Tree) → one.catalogue ≡ other.catalogue → one.c1 ≡ other.c1 → one.c1x ≡ other.c1x → one.c2 ≡ other.c2 → one.output ≡ other.output
    → one.lane_a ≡ other.lane_a → one.lane_b ≡ other.lane_b → one ≡ other
same_tree one other catalogue c1 c1x c2 output a b =
    λ i. record { catalogue = catalogue i; c1 = c1 i; c1x = c1x i; c2 = c2 i; output = output i; lane_a = a i; lane_b = b i }

pub one_tree : (sizes : Sizes) (one other : Tree) (file : List ℕ) → HoldsTree sizes one file → HoldsTree sizes other file → one ≡ other
one_tree sizes one other file holds also =
    same_tree one other catalogue
    (component (λ (c : Catalog). c.c1) one.c1 other.c1 holds.c1 also.c1)
    (component (λ (c : Catalog). c.c1x) one.c1x other.c1x holds.c1x also.c1x)
    (component (λ (c : Catalog). c.c2) one.c2 other.c2 holds.c2 also.c2)
    (same_output sizes other.catalogue.progress one other file (few_pages sizes holds.store.geometry)
    (subst (λ (c : Catalog). HasProgress sizes c.progress one file) catalogue holds.progress) also.progress)
    (lane a_of one.lane_a other.lane_a holds.lane_a also.lane_a)
    (lane b_of one.lane_b other.lane_b holds.lane_b also.lane_b)
  where
    catalogue : one.catalogue ≡ other.catalogue
    catalogue = one_newest sizes one.catalogue other.catalogue file holds.newest also.newest

    component : (of : Catalog → Component) (ps qs : List RunPage) → ReadsAs sizes (of one.catalogue) ps file → ReadsAs sizes (of other.catalogue) qs file → ps ≡ qs
    component of ps qs reads other_reads =
        one_component sizes (of other.catalogue) ps qs file (few_pages sizes holds.store.geometry) (subst (λ (c : Catalog). ReadsAs sizes (of c) ps file) catalogue reads) other_reads

    lane : (of : List ℕ → ℕ) (es fs : Lane) → HasEntries sizes (of one.catalogue.lanes) es file → HasEntries sizes (of other.catalogue.lanes) fs file
        → es ≡ fs
    lane of es fs has other_has = one_list sizes (of other.catalogue.lanes) es fs file (subst (λ (c : Catalog). HasEntries sizes (of c.lanes) es file) catalogue has) other_has

-- so it reads as one map
pub one_map : (a b : Sizes) (one other : List (Key × Value)) (file : List ℕ) → ReadsAsMap a one file → ReadsAsMap b other file → one ≡ other
one_map a b one other file reads also = grind (arith, common_steps, nat_tests, one_size, one_tree)

-- It does so exactly where its tree fits, and that map is the tree's.
pub reads_exactly : (sizes : Sizes) (tree : Tree) (pairs : List (Key × Value)) (file : List ℕ) → HoldsTree sizes tree file
    → ReadsAsMap sizes pairs file ↔ (FitsSizes sizes tree × (map_of_tree tree ≡ pairs))
reads_exactly sizes tree pairs file holds = grind (arith, common_steps, nat_tests, one_tree)

-- ---- the empty tree

pub no_pages : (sizes : Sizes) (file : List ℕ) → ReadsAs sizes empty_component [] file
unfolding IsStrictlySortedBy IsDistinct
no_pages sizes file = record { first_is = refl; chained = tt; rise = tt; apart = tt; pages_is = refl; entries_is = refl; weight_is = refl }

pub none_apart : IsDistinct nat_eq []
unfolding IsDistinct
none_apart = tt

pub first_holds : (sizes : Sizes) (file : List ℕ) → IsMade sizes file → HoldsTree sizes first_tree file
first_holds sizes file made = record {
  store = made.store;
  newest = first_newest sizes file made.slots.odd made.slots.even;
  c1 = no_pages sizes file;
  c1x = no_pages sizes file;
  c2 = no_pages sizes file;
  apart = none_apart;
  bases = tt;
  progress = refl;
  lane_a = made.lanes 0 (omega arith);
  lane_b = made.lanes 1 (omega arith);
}

-- nothing is replayed of an empty lane
none_replayed : (n : ℕ) → entries_weight (replayed (take n [])) ≡ 0
none_replayed n = ap (λ (es : Entries). entries_weight (replayed es)) (take-nil n)

pub first_fits : (sizes : Sizes) → IsGeometry sizes → FitsSizes sizes first_tree
first_fits sizes geometry =
    let half = geometry.half.0 in
    let ratio = geometry.ratio.0 in
    let mark : 2 * sizes.half ≤ sizes.ratio * sizes.half = half_below sizes.ratio sizes.half ratio in
    record {
      mark = grind (arith, mark, half);
      full = omega arith;
      replays = record {
        high_a = λ n. omega (arith, none_replayed n);
        full_a = λ n. omega (arith, none_replayed n);
        high_b = λ n. omega (arith, none_replayed n);
        full_b = λ n. omega (arith, none_replayed n);
      };
    }

pub first_map : (sizes : Sizes) (file : List ℕ) → IsMade sizes file → ReadsAsMap sizes [] file
first_map sizes file made = record { tree = first_tree; holds = first_holds sizes file made; fits = first_fits sizes made.store.geometry; map_is = refl }
