-- How often a lookup reads, and what it tells.
use Rattle.std.specs.Prelude.{◌≡◌, ◌⊎◌, ⊤, ℕ, ◌≤◌, if◌then◌else◌, List, [], ◌∷◌, ◌++◌, Option, Some, None, Result, Ok, Err}
use Rattle.blsm_model.specs.declared.component.Component.{Component}
use Rattle.blsm_model.specs.declared.key.Key.{Key}
use Rattle.blsm_model.specs.Sizes.{Sizes}
use Rattle.bloom_bits.specs.BitSet.{BitState}
use Rattle.bloom_bits.specs.Fences.{IsBelowAll}
use Rattle.bloom_bits.specs.Filter.{MayHave}
use Rattle.bloom_bits.specs.Guides.{fences_of}
use Rattle.record_delta.specs.declared.record.Rec.{Rec}
use Rattle.record_delta.specs.declared.record.Rec.TheVariants.{Base, Delta, Tomb}
use Rattle.record_delta.specs.Entries.{is_above, over_any, record_of_key, replayed}
use Rattle.page_file.specs.Component.{RunPage, ReadsOn, entries_of}
use Rattle.page_file.specs.declared.file.Broken.{Broken}
use Rattle.run_cursor.specs.Lookup.{IsDamaged, IsFoundBy}
use Rattle.tree_file.specs.Tree.{Tree}
use Rattle.tree_runs.specs.Runs.{GuideState, RunsState, filter_of, finished_by_pass, front_of, guide_at, released_by}
use Rattle.tree_runs.specs.Holding.{IsGuidedBy, IsPassOver}

-- what a lookup answers that leaves what it found in a place: that, where it went well
abbrev pub found_by : Result (Unit {0}) Broken → Option Rec → Result (Option Rec) Broken
found_by (Ok _) found = Ok found
found_by (Err broken) found = Err broken

-- The filter's answer for the key, as a count: 1 at least, but 0 is enough where the filter says no.
abbrev pub CountsYes : BitState → Key → ℕ → Type 0
CountsYes filter key n = (1 ≤ n) ⊎ (MayHave filter key → ⊥)

-- A base or a tombstone: whatever is older is hidden by it.
abbrev pub HidesOlder : Option Rec → Type 0
HidesOlder None = ⊥
HidesOlder (Some (Base value)) = ⊤
HidesOlder (Some (Delta count)) = ⊥
HidesOlder (Some Tomb) = ⊤

-- So often a component's pages are asked for the key, or not at all where what is newer hides them.
abbrev pub CountsAsked : Option Rec → BitState → Key → ℕ → Type 0
CountsAsked newer filter key n = HidesOlder newer ⊎ CountsYes filter key n

-- ---- below a memory table of which records may have been dropped

-- A key of which the table's record may have been dropped, as it isn't above the table's floor, is asked of the pass's finished pages in place of C1:
-- they have what comes of both.
abbrev pub first_run : Option Key → Key → RunsState → Component
first_run floor key runs = if is_above floor key then runs.catalogue.c1 else front_of (finished_by_pass runs.pass)

abbrev pub first_tag : Option Key → Key → RunsState → ℕ
first_tag floor key runs = if is_above floor key then runs.tags.c1 else runs.tags.pass

-- What they have of the key: C1's record; or, where the table's was dropped, that of the tree's list of table A over it.
abbrev pub first_record : Option Key → Key → Tree → Option Rec
first_record floor key tree =
    if is_above floor key then record_of_key key (entries_of tree.c1)
    else over_any (record_of_key key (replayed tree.lane_a.entries)) (record_of_key key (entries_of tree.c1))

-- In this file the finished pages are those of a pass over the tree's list of table A and its C1, up to the floor.
pub record IsReleased (floor : Key) (runs : RunsState) (tree : Tree) (file : List ℕ) : Type 0 where
  pub floor_is : released_by runs.pass ≡ Some floor
  pub over : IsPassOver runs.sizes file runs.space (guide_at runs.guides runs.tags.pass) runs.pass (replayed tree.lane_a.entries) tree.c1

-- the floor of this tree's table A: up to there what was dropped is on these pages, and where it has none nothing was
abbrev pub IsFloorOf : Option Key → RunsState → Tree → List ℕ → Type 0
IsFloorOf None runs tree file = ⊤
IsFloorOf (Some floor) runs tree file = IsReleased floor runs tree file

-- So often C1, or the finished pages in its place, C1' and C2 of the tree are asked for the key, from the top on, below a record that is newer.
pub record AreAsked (newer : Option Rec) (floor : Option Key) (key : Key) (runs : RunsState) (tree : Tree) (one two three : ℕ) : Type 0 where
  pub first : CountsAsked newer (filter_of runs (first_tag floor key runs)) key one
  pub second : CountsAsked (over_any newer (first_record floor key tree)) (filter_of runs runs.tags.c1x) key two
  pub third : CountsAsked (over_any (over_any newer (first_record floor key tree)) (record_of_key key (entries_of tree.c1x)))
      (filter_of runs runs.tags.c2) key three

-- In this file the run has this record of the key on these pages: its filter and fences are those of them, and of pages behind whose first keys are
-- above the key.
pub record HasRecord (sizes : Sizes) (run : Component) (guide : GuideState) (key : Key) (file : List ℕ) (found : Option Rec) : Type 0 where
  pub pages : List RunPage
  pub behind : List RunPage
  pub next : Option ℕ
  pub reads : ReadsOn sizes run pages next file
  pub guided : IsGuidedBy guide (pages ++ behind)
  pub below : IsBelowAll key (fences_of behind)
  pub found_is : found ≡ record_of_key key (entries_of pages)

-- ---- what it tells, whatever the components read as

-- C1, or the finished pages in its place, C1' and C2, each with the filter and the fences of its pages
abbrev pub from_newest : Option Key → Key → RunsState → List (Component × GuideState)
from_newest floor key runs =
    (first_run floor key runs, guide_at runs.guides (first_tag floor key runs)) ∷ (runs.catalogue.c1x, guide_at runs.guides runs.tags.c1x)
    ∷ (runs.catalogue.c2, guide_at runs.guides runs.tags.c2) ∷ []

-- In this file: what is known of the key below a record that is newer, once a component was asked. Below a base or a tombstone none is.
abbrev pub IsToldBy : Sizes → Key → List ℕ → Component × GuideState → Option Rec → Option Rec → Type 0
IsToldBy sizes key file c newer found =
    (HidesOlder newer × (found ≡ newer))
    ⊎ ((HidesOlder newer → ⊥) × (older : Option Rec) × (calls : ℕ) × IsFoundBy sizes c.0 c.1.filter c.1.fences key older calls file × (found ≡ over_any newer older))

-- once each of them was, in this order
abbrev pub AreToldBy : Sizes → Key → List ℕ → List (Component × GuideState) → Option Rec → Option Rec → Type 0
AreToldBy sizes key file [] newer found = found ≡ newer
AreToldBy sizes key file (c ∷ cs) newer found = (next : Option Rec) × IsToldBy sizes key file c newer next × AreToldBy sizes key file cs next found

-- this is the page that one of them is asked on, and it isn't a valid one; those before it were asked, and no base or tombstone was found
abbrev pub IsDamageBelow : Sizes → Key → List ℕ → List (Component × GuideState) → Option Rec → ℕ → Type 0
IsDamageBelow sizes key file [] newer n = ⊥
IsDamageBelow sizes key file (c ∷ cs) newer n =
    ((HidesOlder newer → ⊥) × IsDamaged sizes c.0 c.1.filter c.1.fences key n file) ⊎ ((next : Option Rec) × IsToldBy sizes key file c newer next × IsDamageBelow sizes key file cs next n)
