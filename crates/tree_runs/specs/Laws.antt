-- What the components and the runs keep while others write: the log's lanes, the slots of the catalogue. And what of their map is known
-- once they are read.
use Rattle.std.specs.Prelude.{◌≡◌, ◌⊎◌, ℕ, ◌+◌, ◌≤◌, Bool, true, IsTrue, List, Option, Some}
use Rattle.std.specs.List.{AllByRecursion}
use Rattle.disk_trait.specs.Region.{Region, span, outside, IsWithin, IsSameOutside}
use Rattle.blsm_model.specs.declared.key.Key.{Key}
use Rattle.blsm_model.specs.Sizes.{Sizes, IsGeometry}
use Rattle.blsm_model.specs.Geometry.{page_count}
use Rattle.catalog_swap.specs.declared.catalog.Catalog.{Catalog}
use Rattle.record_delta.specs.Entries.{Entries, entries_weight, is_above}
use Rattle.record_delta.specs.Several.{with_records}
use Rattle.page_space.specs.PageSet.{Members}
use Rattle.page_space.specs.Space.{SpaceState, Claims, HasRole, IsFree, IsSpace, KeepsOtherRoles, role_size, unused}
use Rattle.page_file.specs.File.{page_start}
use Rattle.run_writer.specs.Writer.{role_region}
use Rattle.scan_view.specs.Pins.{beside_pins}
use Rattle.snow_merge.specs.Pass.{SnowState}
use Rattle.tree_file.specs.Tree.{Tree, HoldsTree}
use Rattle.tree_file.specs.Places.{appended_a, appended_b}
use Rattle.tree_runs.specs.Runs.{RunsState, AreRead, AreRunning, IsFilled, first_tags, left_for_pass, pages_named}
use Rattle.tree_runs.specs.Holding.{AreOf, cursor_of_pass}

-- the pages that have a tag
abbrev pub used_region : Sizes → SpaceState → Region
used_region sizes space = λ i. (tag : ℕ) × role_region sizes space tag i

-- no byte of them has changed
abbrev pub IsBesideRuns : RunsState → List ℕ → List ℕ → Type 0
IsBesideRuns runs old new = IsSameOutside (outside (used_region runs.sizes runs.space)) old new

-- what stands before the pages, as the slots and the lanes do, is beside them
abbrev pub HeadIsBeside : Type 0
HeadIsBeside = (sizes : Sizes) (space : SpaceState) (at n : ℕ) → at + n ≤ page_start sizes 0 → IsWithin (span at n) (outside (used_region sizes space))

-- and beside those that seats pin
abbrev pub HeadIsUnpinned : Type 0
HeadIsUnpinned = (sizes : Sizes) (pins : List Members) (at n : ℕ) → at + n ≤ page_start sizes 0 → IsWithin (span at n) (beside_pins sizes pins)

-- the merges go on
abbrev pub RunsStay : Type 0
RunsStay = (runs : RunsState) (honest : Bool) (old new : List ℕ) → (IsTrue honest → IsBesideRuns runs old new) → AreRunning honest old runs → AreRunning honest new runs

-- over the same lists, where the file still holds the tree
abbrev pub ListsStay : Type 0
ListsStay = (runs : RunsState) (tree : Tree) (old new : List ℕ) → IsBesideRuns runs old new → AreOf runs tree old → HoldsTree runs.sizes tree new
    → AreOf runs tree new

-- the keys of these entries are ahead of a cursor
abbrev pub AreAhead : Option Key → Entries → Type 0
AreAhead cursor more = AllByRecursion (λ e. is_above cursor e.0 ≡ true) more

-- Entries that come into lane A join the table that the pass takes from, ahead of its cursor.
abbrev pub EntriesJoin : Type 0
EntriesJoin =
    (runs : RunsState) (tree : Tree) (old new : List ℕ) (more : Entries) → IsBesideRuns runs old new
    → AreAhead (cursor_of_pass runs.pass) more → AreOf runs tree old
    → HoldsTree runs.sizes (appended_a more tree) new → AreOf runs (appended_a more tree) new

-- those that come into lane B wait for the next pass
abbrev pub EntriesWait : Type 0
EntriesWait =
    (runs : RunsState) (tree : Tree) (old new : List ℕ) (more : Entries) → IsBesideRuns runs old new → AreOf runs tree old
    → HoldsTree runs.sizes (appended_b more tree) new → AreOf runs (appended_b more tree) new

-- what is left for a pass grows by as much as the table does
abbrev pub LeftGrows : Type 0
LeftGrows =
    (snow : SnowState) (a more : Entries) → AreAhead snow.at more
    → left_for_pass (Some snow) (with_records more a) + entries_weight a ≡ left_for_pass (Some snow) a + entries_weight (with_records more a)

-- ---- the map of a tree that is read

-- so many pages that were free have the tag now, and nothing else changed
pub record TakesFree (tag count : ℕ) (old new : SpaceState) : Type 0 where
  pub pages : new.pages ≡ old.pages
  pub shape : IsSpace new
  pub pins : new.pins ≡ old.pins
  pub others : KeepsOtherRoles tag old new
  pub fresh : (page : ℕ) → HasRole new tag page → HasRole old tag page ⊎ IsFree old page
  pub size : role_size new tag ≡ role_size old tag + count

-- A claim of a free page takes one more.
abbrev pub ClaimsAdd : Type 0
ClaimsAdd = (tag count page : ℕ) (old mid new : SpaceState) → TakesFree tag count old mid → IsFree mid page → Claims tag page mid new → TakesFree tag (count + 1) old new

-- Where no page was in use, and then each component took as many as it has, and a deep merge's run as many as are named, the map is what a reader knows.
abbrev pub TakenAreRead : Type 0
TakenAreRead =
    (sizes : Sizes) (catalogue : Catalog) (c1 c1x c2 deep : SpaceState) → IsGeometry sizes → IsFilled catalogue.c1 → IsFilled catalogue.c1x → IsFilled catalogue.c2
    → TakesFree first_tags.c1 catalogue.c1.pages (unused (page_count sizes)) c1 → TakesFree first_tags.c1x catalogue.c1x.pages c1 c1x
    → TakesFree first_tags.c2 catalogue.c2.pages c1x c2 → TakesFree first_tags.deep (pages_named catalogue.progress) c2 deep → AreRead sizes catalogue deep
