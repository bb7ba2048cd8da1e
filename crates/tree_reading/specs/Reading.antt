-- What reading a store's file tells: what it has, or why it isn't read.
use Rattle.std.specs.Prelude.{◌≡◌, ◌↔◌, ℕ, ◌+◌, ◌*◌, ◌<◌, ◌≤◌, ◌++◌, Bool, IsTrue, List, length, Option, Some, None, Result, Ok, Err, ⊤}
use Rattle.std.specs.List.{Contains}
use Rattle.disk_trait.specs.Disk.{DiskState}
use Rattle.disk_trait.specs.Reads.{OnlyReads}
use Rattle.blsm_model.specs.Sizes.{Sizes, IsGeometry}
use Rattle.blsm_model.specs.Format.{most_weight}
use Rattle.blsm_model.specs.Geometry.{file_length, high_mark, page_count}
use Rattle.blsm_model.specs.Lanes.{a_of, b_of}
use Rattle.record_delta.specs.Entries.{Entries, replayed}
use Rattle.page_file.specs.declared.file.Broken.{Broken}
use Rattle.page_file.specs.declared.file.Broken.TheVariants as broken
use Rattle.page_file.specs.Component.{RunPage, ReadsAs, numbers_of}
use Rattle.page_space.specs.Space.{HasRole, SpaceState}
use Rattle.mem_table.specs.Tables.{IsWhole}
use Rattle.gated_log.specs.Lane.{Lane, HasEntries}
use Rattle.gated_log.specs.Lanes.{end_of}
use Rattle.catalog_swap.specs.declared.catalog.Catalog.{Catalog}
use Rattle.catalog_swap.specs.declared.catalog.Progress.{Progress}
use Rattle.catalog_swap.specs.Text.{IsCatalog}
use Rattle.store_file.specs.Layout.{IsStore, superblock_length}
use Rattle.tree_file.specs.Tree.{Tree, HoldsTree, FitsSizes}
use Rattle.tree_runs.specs.Holding.{AreGuided}
use Rattle.tree_runs.specs.declared.resumable.Resumable.{Resumable}
use Rattle.tree_runs.specs.Ahead.{IsAhead, IsAheadOn, IsAheadOver}
use Rattle.tree_runs.specs.Runs.{AreGuides, AreRead, GuideState, first_tags, guide_at}
use Rattle.output_reading.specs.Walk.{TakesUp}
use Rattle.tree_reading.specs.declared.found.Found.{Found}
use Rattle.tree_reading.specs.declared.found.Unreadable.{Unreadable}
use Rattle.tree_reading.specs.declared.found.Unreadable.TheVariants.{NotAStore, Damaged, Worn, Fault, NoMemory}
use Rattle.tree_reading.specs.declared.lane.LaneEnd.{LaneEnd}
use Rattle.tree_reading.specs.Damage.{
  FitsMarks,
  HasCatalogue,
  HasComponents,
  HasOutput,
  IsDamagedPart,
  IsDamagedRun,
  IsFirstDamage,
  catalogue_weight,
  most_version,
  room_for_a,
  room_for_b,
}
use Rattle.tree_reading.specs.Lane.{IsReplayed, lane_calls}

-- The newest catalogue of the store in this file has this version, which is greater than what is taken.
pub record IsWorn (version : ℕ) (file : List ℕ) : Type 0 where
  pub sizes : Sizes
  pub catalogue : Catalog
  pub has : HasCatalogue sizes catalogue file
  pub version_is : catalogue.version ≡ version
  pub above : most_version < version

-- What a refusal says of the file: it is no store, or this is its first place that isn't of the written form, or it is worn. After a fault, or
-- where memory was refused, nobody knows.
abbrev pub IsWhy : Unreadable → List ℕ → Type 0
IsWhy NotAStore file = ¬ (IsStore file)
IsWhy (Damaged place) file = (sizes : Sizes) × IsFirstDamage sizes place file
IsWhy (Worn version) file = IsWorn version file
IsWhy Fault file = ⊤
IsWhy NoMemory file = ⊤

-- On any disk: what a head's numbers are.
pub record IsHead (sizes : Sizes) (catalogue : Catalog) : Type 0 where
  pub geometry : IsGeometry sizes
  pub valid : IsCatalog sizes catalogue
  pub fits : FitsMarks sizes catalogue
  pub version : catalogue.version ≤ most_version

-- In this file the components read as these pages, and just these have the tags.
pub record AreTagged (sizes : Sizes) (catalogue : Catalog) (space : SpaceState) (file : List ℕ) : Type 0 where
  pub c1 : List RunPage
  pub c1x : List RunPage
  pub c2 : List RunPage
  pub components : HasComponents sizes catalogue c1 c1x c2 file
  pub c1_tag : (k : ℕ) → HasRole space 0 k ↔ Contains (numbers_of c1) k
  pub c1x_tag : (k : ℕ) → HasRole space 1 k ↔ Contains (numbers_of c1x) k
  pub c2_tag : (k : ℕ) → HasRole space 2 k ↔ Contains (numbers_of c2) k

-- And no other page is in use.
pub record AreWalked (sizes : Sizes) (catalogue : Catalog) (space : SpaceState) (file : List ℕ) : Type 0 where
  pub tagged : AreTagged sizes catalogue space file
  pub takes : TakesUp (numbers_of tagged.c1 ++ numbers_of tagged.c1x ++ numbers_of tagged.c2) space

-- The components, and the finished pages that are named of a deep merge, if some are; with what is handed on the merge goes on behind these, where
-- there are filters and fences of five tags.
pub record IsReadAs (sizes : Sizes) (catalogue : Catalog) (space : SpaceState) (guides : List GuideState) (ahead : Option Resumable) (file : List ℕ) :
    Type 0 where
  pub tagged : AreTagged sizes catalogue space file
  pub output : List RunPage
  pub named : HasOutput sizes catalogue.progress tagged.c1 tagged.c1x tagged.c2 output file
  pub over : AreGuides sizes first_tags guides
      → IsAheadOver sizes file space first_tags.deep (guide_at guides first_tags.deep) tagged.c1x tagged.c2 ahead

-- a catalogue's components, of which no deep merge is named
abbrev pub unnamed : Catalog → Catalog
unnamed catalogue = record catalogue { progress = None }

-- Filters and fences, where there are those of five tags: those of 0, 1 and 2 are of the pages as which the components read.
abbrev pub GuidesTree : Sizes → Catalog → List GuideState → List ℕ → Type 0
GuidesTree sizes catalogue guides file =
    AreGuides sizes first_tags guides → (tree : Tree) → ReadsAs sizes catalogue.c1 tree.c1 file → ReadsAs sizes catalogue.c1x tree.c1x file
    → ReadsAs sizes
    catalogue.c2 tree.c2 file
    → AreGuided guides first_tags tree

-- What an answer says of the components: they read, or this is the first page at which they don't. After a fault nobody knows.
abbrev pub TellsComponents : Sizes → Catalog → SpaceState → List ℕ → Result (Unit {0}) Broken → Type 0
TellsComponents sizes catalogue space file (Ok done) = AreWalked sizes catalogue space file
TellsComponents sizes catalogue space file (Err (broken.Damaged n)) = IsDamagedRun sizes catalogue n file
TellsComponents sizes catalogue space file (Err broken.Fault) = ⊤

-- And of the finished pages that are named, too: all is as it is to be, or this is the first page that isn't.
abbrev pub TellsTree : Sizes → Catalog → SpaceState → List GuideState → List ℕ → Result (Option Resumable) Broken → Type 0
TellsTree sizes catalogue space guides file (Ok ahead) = IsReadAs sizes catalogue space guides ahead file
TellsTree sizes catalogue space guides file (Err (broken.Damaged n)) = IsDamagedPart sizes catalogue n file
TellsTree sizes catalogue space guides file (Err broken.Fault) = ⊤

-- Lanes A and B were replayed to these tables, and end here; on an honest disk their entries are those of the file.
pub record AreReplayed (sizes : Sizes) (catalogue : Catalog) (a b : Entries) (end_a end_b : LaneEnd) (honest : Bool) (file : List ℕ) : Type 0 where
  pub lane_a : Lane
  pub lane_b : Lane
  pub a_is : IsReplayed sizes (room_for_a sizes (catalogue_weight catalogue)) lane_a a end_a
  pub b_is : IsReplayed sizes (room_for_b sizes (catalogue_weight catalogue) lane_a.entries) lane_b b end_b
  pub has_a : IsTrue honest → HasEntries sizes (a_of catalogue.lanes) lane_a file
  pub has_b : IsTrue honest → HasEntries sizes (b_of catalogue.lanes) lane_b file

-- What was found of a store, on any disk: the numbers of its head, the tags, and the tables with the places where their lanes end.
pub record IsFound (found : Found) (honest : Bool) (file : List ℕ) : Type 0 where
  pub head : IsHead found.geometry found.catalogue
  pub tags : AreRead found.geometry found.catalogue found.space
  pub sizes : found.lanes.sizes ≡ found.geometry
  pub roles : found.lanes.roles ≡ found.catalogue.lanes
  pub replayed : AreReplayed found.geometry found.catalogue found.a.entries found.b.entries
      (record { place = end_of found.lanes (a_of found.catalogue.lanes); records = found.records_a })
      (record { place = end_of found.lanes (b_of found.catalogue.lanes); records = found.records_b }) honest file
  pub reserved_a : found.a.reserved ≡ high_mark found.geometry + most_weight
  pub reserved_b : found.b.reserved ≡ high_mark found.geometry + most_weight
  pub whole_a : IsWhole found.a
  pub whole_b : IsWhole found.b
  -- what is handed on is what the catalogue names of a deep merge, and where there are filters and fences its finished pages stand
  pub ahead : IsAhead first_tags.deep found.catalogue.progress (found.catalogue.c1x.weight + found.catalogue.c2.weight) found.ahead
  pub stands : AreGuides found.geometry first_tags found.guides
      → IsAheadOn found.geometry honest file found.space first_tags.deep (guide_at found.guides first_tags.deep) found.ahead

-- The file holds a tree of the sizes that were found, with what was found of it.
pub record HoldsFound (found : Found) (file : List ℕ) : Type 0 where
  pub tree : Tree
  pub holds : HoldsTree found.geometry tree file
  pub fits : FitsSizes found.geometry tree
  pub catalogue : tree.catalogue ≡ found.catalogue
  pub c1_tag : (k : ℕ) → HasRole found.space 0 k ↔ Contains (numbers_of tree.c1) k
  pub c1x_tag : (k : ℕ) → HasRole found.space 1 k ↔ Contains (numbers_of tree.c1x) k
  pub c2_tag : (k : ℕ) → HasRole found.space 2 k ↔ Contains (numbers_of tree.c2) k
  pub table_a : found.a.entries ≡ replayed tree.lane_a.entries
  pub table_b : found.b.entries ≡ replayed tree.lane_b.entries
  pub end_a : end_of found.lanes (a_of found.catalogue.lanes) ≡ tree.lane_a.end
  pub end_b : end_of found.lanes (b_of found.catalogue.lanes) ≡ tree.lane_b.end
  pub records_a : found.records_a ≡ length tree.lane_a.entries
  pub records_b : found.records_b ≡ length tree.lane_b.entries
  pub guided : AreGuides found.geometry first_tags found.guides → AreGuided found.guides first_tags tree
  pub over : AreGuides found.geometry first_tags found.guides
      → IsAheadOver found.geometry file found.space first_tags.deep (guide_at found.guides first_tags.deep) tree.c1x tree.c2 found.ahead

-- how many calls a reading takes at most: those of its head, two for each page of a component and one for each page that an output is read with,
-- and those of two lanes
abbrev pub head_calls : Sizes → ℕ
head_calls sizes = 4

abbrev pub reading_calls : Sizes → ℕ
reading_calls sizes = 4 + 9 * page_count sizes + 2 * lane_calls sizes

-- one for each of the finished pages that are named, and of those of C1' and C2, which are read beside them
abbrev pub calls_of_output : Catalog → Option Progress → ℕ
calls_of_output catalogue None = 0
calls_of_output catalogue (Some progress) = catalogue.c1x.pages + catalogue.c2.pages + progress.output.pages

-- and how many one takes that finds this catalogue and so many records in its lanes: one for each page of a component, those of an output, one for
-- each record, and for the closed gate behind those of a lane
abbrev pub calls_of_pages : Catalog → ℕ
calls_of_pages catalogue = catalogue.c1.pages + catalogue.c1x.pages + catalogue.c2.pages + calls_of_output catalogue catalogue.progress

abbrev pub calls_of_reading : Catalog → ℕ → ℕ → ℕ
calls_of_reading catalogue a b = 4 + calls_of_pages catalogue + ((a + 1) + (b + 1))

-- A reading that gave up has only read: the superblock and the length, or within the file of the sizes that these say, with so many calls.
pub data HasLooked (most : Sizes → ℕ) (old new : DiskState) : Type 0 where
  at_superblock : OnlyReads superblock_length 2 old new → HasLooked most old new
  within : (sizes : Sizes) → IsGeometry sizes → (IsTrue old.tells_bytes → length old.bytes ≡ file_length sizes) → OnlyReads (file_length sizes) (most sizes) old new
      → HasLooked most old new
