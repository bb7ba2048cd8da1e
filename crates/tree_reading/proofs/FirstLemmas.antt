-- A file gives one reason at most not to be read.
use Rattle.std.proofs.Common.{◌≡◌, ◌∙◌, ℕ, ◌<◌, ◌≤◌, List, [], ◌++◌, Some, refl, ap, sym, subst, arith, true, false}
use Rattle.std.proofs.lemmas.Grind.{common_steps}
use Rattle.std.proofs.lemmas.Bool.Decides.{nat_tests}
use Rattle.blsm_model.specs.Components.{no_page}
use Rattle.blsm_model.specs.Sizes.{Sizes}
use Rattle.blsm_model.specs.Geometry.{page_count}
use Rattle.blsm_model.specs.declared.key.Key.{Key}
use Rattle.blsm_model.specs.declared.row.Value.{Value}
use Rattle.page_file.specs.Component.{RunPage, entries_of, numbers_of}
use Rattle.page_file.proofs.PageLemmas.{few_pages}
use Rattle.page_file.proofs.ComponentLemmas.{one_component}
use Rattle.catalog_swap.specs.declared.catalog.Catalog.{Catalog}
use Rattle.catalog_swap.specs.declared.catalog.Progress.{Progress}
use Rattle.catalog_swap.proofs.SlotLemmas.{one_newest}
use Rattle.store_file.specs.Layout.{IsStoreOf}
use Rattle.store_file.proofs.LayoutLaws.{only_sizes}
use Rattle.tree_file.specs.Tree.{ReadsAsMap}
use Rattle.tree_reading.specs.declared.found.Place.{Place}
use Rattle.tree_reading.specs.declared.found.Place.TheVariants.{Slots, Lane, Page}
use Rattle.tree_reading.specs.declared.found.Unreadable.{Unreadable}
use Rattle.tree_reading.specs.Pages.{IsDamagedPage}
use Rattle.tree_reading.specs.Damage.{
  HasCatalogue,
  HasComponents,
  IsDamagedLog,
  IsDamagedPart,
  IsDamagedRun,
  IsFirstDamage,
  most_version,
  in_c1,
  in_c1x,
  in_c2,
  in_component,
  in_output,
  in_a,
  in_b,
}
use Rattle.tree_reading.specs.First.{IsOfFile}
use Rattle.tree_reading.specs.Reading.{IsWhy, IsWorn}
use Rattle.tree_reading.proofs.DamageLemmas.{no_damage, slots_fine, c1_fine, c1x_fine, part_fine, run_fine, a_fine}
use Rattle.output_reading.specs.Output.{IsDeparted}
use Rattle.output_reading.proofs.PagesLemmas.{distinct_front}
use Rattle.output_reading.proofs.RightLemmas.{one_departs}
use Rattle.tree_reading.proofs.PagesLemmas.{one_damaged_page}

-- ---- the catalogue

past : (one other most : ℕ) → one ≡ other → one ≤ most → most < other → ⊥
past one other most same below above = omega (arith, same, below, above)

pub store_of : (sizes : Sizes) (place : Place) (file : List ℕ) → IsFirstDamage sizes place file → IsStoreOf sizes file
store_of sizes place file h1 = grind (arith, common_steps, nat_tests)

same_catalogue : (sizes : Sizes) (a b : Catalog) (file : List ℕ) → HasCatalogue sizes a file → HasCatalogue sizes b file → a ≡ b
same_catalogue sizes a b file one other = one_newest sizes a b file one.newest other.newest

-- a store whose version isn't taken has no other reason
past_version : (sizes : Sizes) (place : Place) (catalogue : Catalog) (file : List ℕ) → IsFirstDamage sizes place file → HasCatalogue sizes catalogue file → most_version < catalogue.version → ⊥
past_version sizes Slots catalogue file damage has above = slots_fine sizes catalogue file has damage.1
past_version sizes (Page n) catalogue file damage has above = grind (arith, common_steps, nat_tests, same_catalogue)
past_version sizes (Lane n) catalogue file damage has above = grind (arith, common_steps, nat_tests, same_catalogue)

pub damaged_not_worn : (sizes : Sizes) (place : Place) (version : ℕ) (file : List ℕ) → IsFirstDamage sizes place file → IsWorn version file → ⊥
damaged_not_worn sizes place version file damage worn = grind (arith, common_steps, nat_tests, past_version, only_sizes, store_of)

pub one_version : (one other : ℕ) (file : List ℕ) → IsWorn one file → IsWorn other file → one ≡ other
one_version one other file a b = grind (arith, common_steps, nat_tests, same_catalogue, only_sizes)

-- ---- the components

one_run : (sizes : Sizes) (catalogue : Catalog) (n m : ℕ) (file : List ℕ) → page_count sizes ≤ no_page → IsDamagedRun sizes catalogue n file → IsDamagedRun sizes catalogue m file → n ≡ m
one_run sizes catalogue n m file few (in_c1 d) (in_c1 e) = one_damaged_page sizes catalogue.c1 false [] n m file few d e
one_run sizes catalogue n m file few (in_c1 d) (in_c1x c1 reads e) = absurd (c1_fine sizes catalogue c1 n file few reads d)
one_run sizes catalogue n m file few (in_c1 d) (in_c2 c1 c1x reads reads_x e) = absurd (c1_fine sizes catalogue c1 n file few reads d)
one_run sizes catalogue n m file few (in_c1x c1 reads d) (in_c1 e) = absurd (c1_fine sizes catalogue c1 m file few reads e)
one_run sizes catalogue n m file few (in_c1x c1 reads d) (in_c1x other reads_other e) =
    one_damaged_page sizes catalogue.c1x false (numbers_of other) n m file few
    (subst (λ (l : List RunPage). IsDamagedPage sizes catalogue.c1x false (numbers_of l) n file) (one_component sizes catalogue.c1 c1 other file few reads reads_other) d) e
one_run sizes catalogue n m file few (in_c1x first reads_first d) (in_c2 c1 c1x reads reads_x e) =
    absurd (c1x_fine sizes catalogue first c1 c1x n file few reads_first reads reads_x (distinct_front (numbers_of c1 ++ numbers_of c1x) (numbers_of e.pages) e.begins.apart) d)
one_run sizes catalogue n m file few (in_c2 c1 c1x reads reads_x d) (in_c1 e) = absurd (c1_fine sizes catalogue c1 m file few reads e)
one_run sizes catalogue n m file few (in_c2 c1 c1x reads reads_x d) (in_c1x first reads_first e) =
    absurd (c1x_fine sizes catalogue first c1 c1x m file few reads_first reads reads_x (distinct_front (numbers_of c1 ++ numbers_of c1x) (numbers_of d.pages) d.begins.apart) e)
one_run sizes catalogue n m file few (in_c2 c1 c1x reads reads_x d) (in_c2 other other_x reads' reads_x' e) =
    one_damaged_page sizes catalogue.c2 true (numbers_of other ++ numbers_of other_x) n m file few
    (subst (λ (l : List RunPage). IsDamagedPage sizes catalogue.c2 true (numbers_of other ++ numbers_of l) n file) (one_component sizes catalogue.c1x c1x other_x file few reads_x reads_x')
    (subst (λ (l : List RunPage). IsDamagedPage sizes catalogue.c2 true (numbers_of l ++ numbers_of c1x) n file) (one_component sizes catalogue.c1 c1 other file few reads reads') d)) e

-- ---- the finished pages that are named

one_output : (sizes : Sizes) (catalogue : Catalog) (progress : Progress) (c1 c1x c2 d1 d1x d2 : List RunPage) (n m : ℕ) (file : List ℕ) → page_count
    sizes ≤ no_page
    → HasComponents sizes catalogue c1 c1x c2 file → HasComponents sizes catalogue d1 d1x d2 file
    → IsDeparted sizes progress (entries_of c1x) (entries_of c2) (numbers_of c1 ++ numbers_of c1x ++ numbers_of c2) n file
    → IsDeparted sizes progress (entries_of d1x) (entries_of d2) (numbers_of d1 ++ numbers_of d1x ++ numbers_of d2) m file → n ≡ m
one_output sizes catalogue progress c1 c1x c2 d1 d1x d2 n m file few has had d e =
    let Departs = λ (l1 l1x l2 : List RunPage). IsDeparted sizes progress (entries_of l1x) (entries_of l2)
    (numbers_of l1 ++ numbers_of l1x ++ numbers_of l2) n file in
    one_departs sizes progress (entries_of d1x) (entries_of d2) (numbers_of d1 ++ numbers_of d1x ++ numbers_of d2) file few n m
    (subst (λ (l : List RunPage). Departs d1 d1x l) (one_component sizes catalogue.c2 c2 d2 file few has.c2_reads had.c2_reads)
    (subst (λ (l : List RunPage). Departs d1 l c2) (one_component sizes catalogue.c1x c1x d1x file few has.c1x_reads had.c1x_reads)
    (subst (λ (l : List RunPage). Departs l c1x c2) (one_component sizes catalogue.c1 c1 d1 file few has.c1_reads had.c1_reads) d))) e

some_same : (p q : Progress) → Some p ≡ Some q → p ≡ q
some_same p q is = cc

one_part : (sizes : Sizes) (catalogue : Catalog) (n m : ℕ) (file : List ℕ) → page_count sizes ≤ no_page → IsDamagedPart sizes catalogue n file →
    IsDamagedPart sizes catalogue m file → n ≡ m
one_part sizes catalogue n m file few (in_component d) (in_component e) = one_run sizes catalogue n m file few d e
one_part sizes catalogue n m file few (in_component d) (in_output c1 c1x c2 has progress is e) = absurd
    (run_fine sizes catalogue c1 c1x c2 n file few has d)
one_part sizes catalogue n m file few (in_output c1 c1x c2 has progress is d) (in_component e) = absurd
    (run_fine sizes catalogue c1 c1x c2 m file few has e)
one_part sizes catalogue n m file few (in_output c1 c1x c2 has p is d) (in_output d1 d1x d2 had q is' e) =
    one_output sizes catalogue q c1 c1x c2 d1 d1x d2 n m file few has had
    (subst (λ (r : Progress). IsDeparted sizes r (entries_of c1x) (entries_of c2) (numbers_of c1 ++ numbers_of c1x ++ numbers_of c2) n file)
    (some_same p q (sym is ∙ is')) d) e

-- ---- the lanes

one_log : (sizes : Sizes) (catalogue : Catalog) (n m : ℕ) (file : List ℕ) → IsDamagedLog sizes catalogue n file → IsDamagedLog sizes catalogue m file → n ≡ m
one_log sizes catalogue n m file (in_a is d) (in_a is' e) = is ∙ sym is'
one_log sizes catalogue n m file (in_a is d) (in_b is' entries has within e) = absurd (a_fine sizes catalogue n entries file is has within d)
one_log sizes catalogue n m file (in_b is entries has within d) (in_a is' e) = absurd (a_fine sizes catalogue m entries file is' has within e)
one_log sizes catalogue n m file (in_b is entries has within d) (in_b is' entries' has' within' e) = is ∙ sym is'

-- ---- the places

page_or_lane : (sizes : Sizes) (n m : ℕ) (file : List ℕ) → IsFirstDamage sizes (Page n) file → IsFirstDamage sizes (Lane m) file → ⊥
page_or_lane sizes n m file d e =
    part_fine sizes e.0 e.3 e.4 e.5 e.7 n file (few_pages sizes e.1.store.geometry) e.6 e.8
    (subst (λ (c : Catalog). IsDamagedPart sizes c n file) (same_catalogue sizes d.0 e.0 file d.1 e.1) d.3)

pub one_place : (sizes : Sizes) (one other : Place) (file : List ℕ) → IsFirstDamage sizes one file → IsFirstDamage sizes other file → one ≡ other
one_place sizes Slots Slots file d e = refl
one_place sizes Slots (Page n) file d e = absurd (slots_fine sizes e.0 file e.1 d.1)
one_place sizes Slots (Lane n) file d e = absurd (slots_fine sizes e.0 file e.1 d.1)
one_place sizes (Page n) Slots file d e = absurd (slots_fine sizes d.0 file d.1 e.1)
one_place sizes (Lane n) Slots file d e = absurd (slots_fine sizes d.0 file d.1 e.1)
one_place sizes (Page n) (Page m) file d e =
    ap Page
    (one_part sizes e.0 n m file (few_pages sizes e.1.store.geometry)
    (subst (λ (c : Catalog). IsDamagedPart sizes c n file) (same_catalogue sizes d.0 e.0 file d.1 e.1) d.3) e.3)
one_place sizes (Page n) (Lane m) file d e = absurd (page_or_lane sizes n m file d e)
one_place sizes (Lane n) (Page m) file d e = absurd (page_or_lane sizes m n file e d)
one_place sizes (Lane n) (Lane m) file d e =
    ap Lane (one_log sizes e.0 n m file (subst (λ (c : Catalog). IsDamagedLog sizes c n file) (same_catalogue sizes d.0 e.0 file d.1 e.1) d.9) e.9)

-- ---- a file that reads as a map

pub map_is_read : (sizes : Sizes) (pairs : List (Key × Value)) (why : Unreadable) (file : List ℕ) → (reads : ReadsAsMap sizes pairs file) → reads.tree.catalogue.version ≤ most_version → IsOfFile why
    → IsWhy why file → ⊥
map_is_read sizes pairs why file reads h1 h2 h3 = grind (arith, common_steps, nat_tests, no_damage, only_sizes, store_of, past, one_newest)
