-- The first place of a store's file that isn't of the written form.
use Rattle.std.specs.Prelude.{◌≡◌, ℕ, ◌+◌, ◌-◌, ◌^◌, ◌<◌, ◌≤◌, List, [], ◌∷◌, ◌++◌, Option, Some, None, min, nat_eq, true, false}
use Rattle.std.specs.List.{IsDistinct}
use Rattle.blsm_model.specs.Sizes.{Sizes}
use Rattle.blsm_model.specs.Geometry.{c1_mark, capacity, high_mark}
use Rattle.blsm_model.specs.Lanes.{a_of, b_of}
use Rattle.record_delta.specs.Entries.{Entries, entries_weight, replayed}
use Rattle.page_file.specs.Component.{RunPage, ReadsAs, entries_of, numbers_of}
use Rattle.gated_log.specs.Lane as log
use Rattle.gated_log.specs.Lane.{HasEntries}
use Rattle.catalog_swap.specs.declared.catalog.Catalog.{Catalog}
use Rattle.catalog_swap.specs.declared.catalog.Progress.{Progress}
use Rattle.catalog_swap.specs.Slots.{IsNewest, IsDamagedSlots}
use Rattle.store_file.specs.Layout.{IsStoreOf}
use Rattle.tree_file.specs.Output.{IsOutputOf}
use Rattle.tree_machine.specs.Layers.{AreBases}
use Rattle.output_reading.specs.Output.{IsDeparted}
use Rattle.tree_reading.specs.declared.found.Place.{Place}
use Rattle.tree_reading.specs.declared.found.Place.TheVariants.{Slots, Lane, Page}
use Rattle.tree_reading.specs.Lane.{IsDamagedLane, StaysWithin}
use Rattle.tree_reading.specs.Pages.{IsDamagedPage}

-- the greatest version that opening takes
abbrev pub most_version : ℕ
most_version = 2 ^ 62

-- how much the components weigh, by the catalogue
abbrev pub catalogue_weight : Catalog → ℕ
catalogue_weight catalogue = catalogue.c1.weight + catalogue.c1x.weight + catalogue.c2.weight

-- by its numbers C1 is below its mark, and all components are within the capacity
pub record FitsMarks (sizes : Sizes) (catalogue : Catalog) : Type 0 where
  pub mark : catalogue.c1.weight < c1_mark sizes
  pub full : catalogue_weight catalogue ≤ capacity sizes

-- The file is a store of these sizes, and this is its newest catalogue, which fits.
pub record HasCatalogue (sizes : Sizes) (catalogue : Catalog) (file : List ℕ) : Type 0 where
  pub store : IsStoreOf sizes file
  pub newest : IsNewest sizes catalogue file
  pub fits : FitsMarks sizes catalogue

-- The components of the catalogue read as these pages, none of which is in two of them, and C2 has bases only.
pub record HasComponents (sizes : Sizes) (catalogue : Catalog) (c1 c1x c2 : List RunPage) (file : List ℕ) : Type 0 where
  pub c1_reads : ReadsAs sizes catalogue.c1 c1 file
  pub c1x_reads : ReadsAs sizes catalogue.c1x c1x file
  pub c2_reads : ReadsAs sizes catalogue.c2 c2 file
  pub apart : IsDistinct nat_eq (numbers_of c1 ++ numbers_of c1x ++ numbers_of c2)
  pub bases : AreBases (entries_of c2)

-- The finished pages that are named of a deep merge of C1' and C2 are these, and neither they nor the next page are in a component; or none are.
abbrev pub HasOutput : Sizes → Option Progress → (c1 c1x c2 output : List RunPage) → List ℕ → Type 0
HasOutput sizes None c1 c1x c2 output file = output ≡ []
HasOutput sizes (Some progress) c1 c1x c2 output file =
    IsOutputOf sizes progress (entries_of c1x) (entries_of c2) output file
    × IsDistinct nat_eq (numbers_of c1 ++ numbers_of c1x ++ numbers_of c2 ++ numbers_of output ++ progress.next ∷ [])

-- how much table A may weigh, and how much table B beside it
abbrev pub room_for_a : Sizes → ℕ → ℕ
room_for_a sizes components = min (high_mark sizes) (capacity sizes - components)

abbrev pub room_for_b : Sizes → ℕ → Entries → ℕ
room_for_b sizes components lane_a = room_for_a sizes components - entries_weight (replayed lane_a)

-- the slots are damaged, or the newest catalogue doesn't fit
pub data AreDamagedSlots (sizes : Sizes) (file : List ℕ) : Type 0 where
  broken : IsDamagedSlots sizes file → AreDamagedSlots sizes file
  heavy : (catalogue : Catalog) → IsNewest sizes catalogue file → (FitsMarks sizes catalogue → ⊥) → AreDamagedSlots sizes file

-- the first component that doesn't read is damaged at this page
pub data IsDamagedRun (sizes : Sizes) (catalogue : Catalog) (n : ℕ) (file : List ℕ) : Type 0 where
  in_c1 : IsDamagedPage sizes catalogue.c1 false [] n file → IsDamagedRun sizes catalogue n file
  in_c1x : (c1 : List RunPage) → ReadsAs sizes catalogue.c1 c1 file → IsDamagedPage sizes catalogue.c1x false (numbers_of c1) n file → IsDamagedRun sizes catalogue n file
  in_c2 : (c1 c1x : List RunPage) → ReadsAs sizes catalogue.c1 c1 file → ReadsAs sizes catalogue.c1x c1x file
      → IsDamagedPage sizes catalogue.c2 true (numbers_of c1 ++ numbers_of c1x) n file → IsDamagedRun sizes catalogue n file

-- And where all components read, this is the first of the finished pages that are named that departs from what they are of.
pub data IsDamagedPart (sizes : Sizes) (catalogue : Catalog) (n : ℕ) (file : List ℕ) : Type 0 where
  in_component : IsDamagedRun sizes catalogue n file → IsDamagedPart sizes catalogue n file
  in_output : (c1 c1x c2 : List RunPage) → HasComponents sizes catalogue c1 c1x c2 file → (progress : Progress) → catalogue.progress ≡ Some progress
      → IsDeparted sizes progress (entries_of c1x) (entries_of c2) (numbers_of c1 ++ numbers_of c1x ++ numbers_of c2) n file
      → IsDamagedPart sizes catalogue n file

-- the first lane that doesn't replay is this
pub data IsDamagedLog (sizes : Sizes) (catalogue : Catalog) (lane : ℕ) (file : List ℕ) : Type 0 where
  in_a : lane ≡ a_of catalogue.lanes → IsDamagedLane sizes lane (room_for_a sizes (catalogue_weight catalogue)) file → IsDamagedLog sizes catalogue lane file
  in_b : lane ≡ b_of catalogue.lanes → (lane_a : log.Lane) → HasEntries sizes (a_of catalogue.lanes) lane_a file
      → StaysWithin (room_for_a sizes (catalogue_weight catalogue)) lane_a.entries
      → IsDamagedLane sizes lane (room_for_b sizes (catalogue_weight catalogue) lane_a.entries) file → IsDamagedLog sizes catalogue lane file

-- Of the store in this file this is the first place that isn't of the written form.
abbrev pub IsFirstDamage : Sizes → Place → List ℕ → Type 0
IsFirstDamage sizes Slots file = IsStoreOf sizes file × AreDamagedSlots sizes file
IsFirstDamage sizes (Page n) file = (catalogue : Catalog) × HasCatalogue sizes catalogue file × (catalogue.version ≤ most_version) × IsDamagedPart
    sizes catalogue n file
IsFirstDamage sizes (Lane n) file =
    (catalogue : Catalog) × HasCatalogue sizes catalogue file × (catalogue.version ≤ most_version)
    × (c1 : List RunPage) × (c1x : List RunPage) × (c2 : List RunPage) × HasComponents sizes catalogue c1 c1x c2 file
    × (output : List RunPage) × HasOutput sizes catalogue.progress c1 c1x c2 output file × IsDamagedLog sizes catalogue n file
