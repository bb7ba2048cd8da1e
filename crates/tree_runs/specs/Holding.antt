-- What the components and merges of a tree are on an honest disk, whose file holds the tree.
use Rattle.std.specs.Prelude.{◌≡◌, ◌≢◌, ◌↔◌, ◌⊎◌, ⊤, ℕ, Bool, IsTrue, ◌+◌, List, [], ◌∷◌, Option, Some, None, Result, Ok, Err, OnOk, if◌then◌else◌, nat_le}
use Rattle.std.specs.Prelude.{◌-◌, ◌<◌, ◌≤◌, ◌^◌, length, map, min, nat_eq, nat_lt, option_map, true, false}
use Rattle.std.specs.List.{Contains}
use Rattle.disk_trait.specs.Region.{Region, span}
use Rattle.disk_trait.specs.Disk.{DiskState, TellsFaultsBy}
use Rattle.disk_trait.specs.Effects.{Affects}
use Rattle.disk_trait.specs.Moments.{LeavesOnly}
use Rattle.blsm_model.specs.Sizes.{Sizes}
use Rattle.blsm_model.specs.Components.{empty_component}
use Rattle.blsm_model.specs.Geometry.{c1_mark, capacity, file_length}
use Rattle.blsm_model.specs.Lanes.{a_of, b_of, spare_of}
use Rattle.blsm_model.specs.declared.key.Key.{Key}
use Rattle.blsm_model.specs.declared.component.Component.{Component}
use Rattle.gated_log.specs.Lane.{no_lane}
use Rattle.catalog_swap.specs.declared.catalog.Catalog.{Catalog}
use Rattle.catalog_swap.specs.declared.catalog.Progress.{Progress}
use Rattle.record_delta.specs.Entries.{Entries, above, folded_over, is_above, replayed, settled_entries}
use Rattle.page_space.specs.Space.{SpaceState, HasRole, IsFree, IsPinnedBy, IsSpace, KeepsOtherPins, pin_size, role_size}
use Rattle.page_file.specs.declared.file.Broken.{Broken}
use Rattle.page_file.specs.declared.file.Broken.TheVariants.{Fault, Damaged}
use Rattle.page_file.specs.Component.{RunPage, entries_of, numbers_of}
use Rattle.run_cursor.specs.Lookup.{IsGuided}
use Rattle.bloom_bits.specs.declared.fences.Fence.{Fence}
use Rattle.bloom_bits.specs.Parts.{IsPartFrom, last_fences}
use Rattle.scan_view.specs.Hold.{HoldState, held_from}
use Rattle.scan_view.specs.Pins.{Pins, beside_pins}
use Rattle.catalog_swap.specs.Slots.{slot_of, slot_length}
use Rattle.catalog_swap.specs.Swap.{prepared}
use Rattle.merge_ends.specs.Closed.{AreClosed}
use Rattle.merge_ends.specs.declared.finished.Finished.{Finished}
use Rattle.merge_ends.specs.Merge.{finished_of}
use Rattle.merge_ends.specs.Output.{TakesPages}
use Rattle.merge_ends.specs.Quantum.{IsQuantum}
use Rattle.merge_ends.specs.Progress.{TakesQuantum}
use Rattle.snow_merge.specs.Pass.{SnowState, IsPass, progress_of_pass}
use Rattle.deep_merge.specs.Merge.{DeepState, IsMerge, merge_of, progress_of_deep, started as deep_started}
use Rattle.tree_file.specs.Tree.{Tree, HoldsTree}
use Rattle.tree_file.specs.Places.{StandsOn, HoldsEither, StandsOnEither}
use Rattle.tree_runs.specs.Runs.{GuideState, RunsState, Tags, AreRunning, PassCovers, deep_bits, emptied, fences_of_tag, finished_by_pass, front_of, guide_at, made_by_pass, made_by_deep}

-- each of these pages has the tag
abbrev pub AreTagged : SpaceState → ℕ → List RunPage → Type 0
AreTagged space tag pages = (n : ℕ) → Contains (numbers_of pages) n → HasRole space tag n

-- none of these pages has the tag, and none is free
abbrev pub AreElsewhere : SpaceState → ℕ → List RunPage → Type 0
AreElsewhere space tag pages = (n : ℕ) → Contains (numbers_of pages) n → (HasRole space tag n → ⊥) × (IsFree space n → ⊥)

-- the pass runs over table A and C1
abbrev pub IsPassOver : Sizes → List ℕ → SpaceState → GuideState → Option SnowState → Entries → List RunPage → Type 0
IsPassOver sizes file space guide None a c1 = ⊤
IsPassOver sizes file space guide (Some snow) a c1 = IsPass sizes file space snow guide.filter guide.fences (numbers_of c1) a (entries_of c1)

-- the deep merge runs over C1' and C2; where none runs C1' is empty
abbrev pub IsDeepOver : Sizes → List ℕ → SpaceState → GuideState → Option DeepState → (c1x c2 : List RunPage) → Type 0
IsDeepOver sizes file space guide None c1x c2 = c1x ≡ []
IsDeepOver sizes file space guide (Some merge) c1x c2 =
    IsMerge sizes file space merge guide.filter guide.fences (numbers_of c1x) (numbers_of c2) (entries_of c1x) (entries_of c2)

-- The deep merge has finished these pages: each is one of its run that isn't the open one. Where none runs there is none.
abbrev pub AreFinished : SpaceState → Option DeepState → List RunPage → Type 0
AreFinished space None pages = pages ≡ []
AreFinished space (Some merge) pages = AreClosed space merge.writer pages

-- The filter and the fences are those of these pages; where there are none, nobody asks them, so they may be older ones.
abbrev pub IsGuidedBy : GuideState → List RunPage → Type 0
IsGuidedBy guide pages = IsGuided guide.filter guide.fences pages

-- each component's are those of its pages
pub record AreGuided (guides : List GuideState) (tags : Tags) (tree : Tree) : Type 0 where
  pub c1 : IsGuidedBy (guide_at guides tags.c1) tree.c1
  pub c1x : IsGuidedBy (guide_at guides tags.c1x) tree.c1x
  pub c2 : IsGuidedBy (guide_at guides tags.c2) tree.c2

-- In this file the tree has this catalogue, its components' pages have their tags, filters and fences, the merges run over its lists, table A's being
-- what lane A replays to, and the deep merge has finished the pages that are named of it.
pub record AreOf (runs : RunsState) (tree : Tree) (file : List ℕ) : Type 0 where
  pub holds : HoldsTree runs.sizes tree file
  pub catalogue : tree.catalogue ≡ runs.catalogue
  pub c1 : AreTagged runs.space runs.tags.c1 tree.c1
  pub c1x : AreTagged runs.space runs.tags.c1x tree.c1x
  pub c2 : AreTagged runs.space runs.tags.c2 tree.c2
  pub pass : IsPassOver runs.sizes file runs.space (guide_at runs.guides runs.tags.pass) runs.pass (replayed tree.lane_a.entries) tree.c1
  pub deep : IsDeepOver runs.sizes file runs.space (guide_at runs.guides runs.tags.deep) runs.deep tree.c1x tree.c2
  pub guided : AreGuided runs.guides runs.tags tree
  pub output : AreFinished runs.space runs.deep tree.output

-- The disk stands on the tree, and these are of it.
pub record StandOver (runs : RunsState) (tree : Tree) (d : DiskState) : Type 0 where
  pub stands : StandsOn runs.sizes tree d
  pub are_of : AreOf runs tree d.bytes

-- ---- the swaps, as the catalogue has them

-- What is named of a deep merge over this C1' and this C2 that has finished so much. z is how much of both isn't left, also of what settled to nothing.
abbrev pub named_of : Catalog → Finished → Progress
named_of now done = record {
  output = done.output;
  next = done.next;
  z = min (now.c1x.weight + now.c2.weight) (2 ^ 64 - 1) - done.left;
  key = done.key;
}

-- What the commit of a pass's swap names: where a deep merge runs and a page of its run is finished, how far that has come. Where C1' has no pages
-- nothing is named, since no slot may say that. All other commits name nothing.
abbrev pub progress_of : Catalog → Option DeepState → Option Progress
progress_of now None = None
progress_of now (Some merge) = if nat_eq now.c1x.pages 0 then None else option_map (named_of now) (finished_of (merge_of merge))

-- the next catalogue where the deep merge's run becomes C2
abbrev pub with_deep_run : Component → Catalog → Catalog
with_deep_run made now = record { version = now.version + 1; lanes = now.lanes; c1 = now.c1; c1x = empty_component; c2 = made; progress = None }

-- C1 becomes C1'
abbrev pub with_rotation : Catalog → Catalog
with_rotation now = record { version = now.version + 1; lanes = now.lanes; c1 = empty_component; c1x = now.c1; c2 = now.c2; progress = None }

-- The pass's run becomes C1, or C1' where it is as heavy as C1's mark; the lanes turn. So much is named of the deep merge that runs.
abbrev pub is_full : Sizes → Component → Bool
is_full sizes made = nat_le (c1_mark sizes) made.weight

abbrev pub with_pass_run : Sizes → Component → Option Progress → Catalog → Catalog
with_pass_run sizes made progress now = record {
  version = now.version + 1;
  lanes = b_of now.lanes ∷ spare_of now.lanes ∷ a_of now.lanes ∷ [];
  c1 = if is_full sizes made then empty_component else made;
  c1x = if is_full sizes made then made else now.c1x;
  c2 = now.c2;
  progress = progress;
}

-- ---- the swaps, as the lists have them

-- The deep merge's output is C2, and C1' is empty. The catalogue's version is the next one, and all else stays.
pub record IsDeepSwapped (old new : Tree) : Type 0 where
  pub version : new.catalogue.version ≡ old.catalogue.version + 1
  pub c1 : new.c1 ≡ old.c1
  pub c1x : new.c1x ≡ []
  pub c2 : entries_of new.c2 ≡ settled_entries (folded_over (entries_of old.c1x) (entries_of old.c2))
  pub lane_a : new.lane_a ≡ old.lane_a
  pub lane_b : new.lane_b ≡ old.lane_b

-- C1 is C1', and C1 is empty
pub record IsRotated (old new : Tree) : Type 0 where
  pub version : new.catalogue.version ≡ old.catalogue.version + 1
  pub c1 : new.c1 ≡ []
  pub c1x : new.c1x ≡ old.c1
  pub c2 : new.c2 ≡ old.c2
  pub lane_a : new.lane_a ≡ old.lane_a
  pub lane_b : new.lane_b ≡ old.lane_b

-- The pass's output, table A's list folded over C1, is C1; or it is C1', and C1 is empty. Lane B is lane A, and lane B is empty.
pub record IsPassSwapped (rotates : Bool) (old new : Tree) : Type 0 where
  pub version : new.catalogue.version ≡ old.catalogue.version + 1
  pub c1 : entries_of new.c1 ≡ (if rotates then [] else folded_over (replayed old.lane_a.entries) (entries_of old.c1))
  pub c1x : entries_of new.c1x ≡ (if rotates then folded_over (replayed old.lane_a.entries) (entries_of old.c1) else entries_of old.c1x)
  pub c2 : new.c2 ≡ old.c2
  pub lane_a : new.lane_a ≡ old.lane_b
  pub lane_b : new.lane_b ≡ no_lane

-- ---- where they write

-- a commit writes the gates that a preparation closes, and the slot of the next catalogue
abbrev pub commit_region : Sizes → Catalog → Region
commit_region sizes now = λ i. prepared sizes now i ⊎ span (slot_of (now.version + 1)) slot_length i

-- ---- what a call leaves

-- the filter and the fences of each other tag are as they were
abbrev pub KeepsOtherGuides : ℕ → List GuideState → List GuideState → Type 0
KeepsOtherGuides tag old new = (other : ℕ) → other ≢ tag → guide_at new other ≡ guide_at old other

-- So many quanta more went well, where their number keeps within 64 bits.
abbrev pub CountsMore : ℕ → (old new : RunsState) → Type 0
CountsMore quanta old new = old.quanta + quanta < 2 ^ 64 → new.quanta ≡ old.quanta + quanta

-- A quantum of the pass changes the pass alone, the pages that it takes, its run's filter and fences, and how many went well. So the other merge and
-- the catalogue are as they were.
pub record KeepsAllButPass (old new : RunsState) : Type 0 where
  pub sizes : new.sizes ≡ old.sizes
  pub catalogue : new.catalogue ≡ old.catalogue
  pub tags : new.tags ≡ old.tags
  pub deep : new.deep ≡ old.deep
  pub takes : TakesPages old.tags.pass old.space new.space
  pub guides : KeepsOtherGuides old.tags.pass old.guides new.guides

pub record KeepsAllButDeep (old new : RunsState) : Type 0 where
  pub sizes : new.sizes ≡ old.sizes
  pub catalogue : new.catalogue ≡ old.catalogue
  pub tags : new.tags ≡ old.tags
  pub pass : new.pass ≡ old.pass
  pub takes : TakesPages old.tags.deep old.space new.space
  pub guides : KeepsOtherGuides old.tags.deep old.guides new.guides

-- The seat pins other pages now. Nothing else has changed.
pub record Repins (seat : ℕ) (old new : RunsState) : Type 0 where
  pub rest : new ≡ record old { space = new.space }
  pub others : KeepsOtherPins seat old.space new.space
  pub roles : new.space.roles ≡ old.space.roles
  pub pages : new.space.pages ≡ old.space.pages

-- a quantum of the pass took so much, by the numbers, or as the lists have it
abbrev pub PassTakes : ℕ → Option SnowState → Option SnowState → Entries → ℕ → Type 0
PassTakes least (Some old) (Some new) a n = TakesQuantum least (progress_of_pass old a) (progress_of_pass new a) n
PassTakes least old new a n = ⊥

abbrev pub PassTook : ℕ → Option SnowState → Option SnowState → (a c1 : Entries) → ℕ → Type 0
PassTook least (Some old) (Some new) a c1 n = IsQuantum least old.at new.at a c1 n
PassTook least old new a c1 n = ⊥

abbrev pub DeepTakes : ℕ → Option DeepState → Option DeepState → ℕ → Type 0
DeepTakes least (Some old) (Some new) n = TakesQuantum least (progress_of_deep old) (progress_of_deep new) n
DeepTakes least old new n = ⊥

abbrev pub DeepTook : ℕ → Option DeepState → Option DeepState → (c1x c2 : Entries) → ℕ → Type 0
DeepTook least (Some old) (Some new) c1x c2 n = IsQuantum least old.at new.at c1x c2 n
DeepTook least old new c1x c2 n = ⊥

-- What a quantum tells of the disk and of the lists. On an honest disk it still stands on its tree, in each image of each moment, and the merge is
-- further on by one quantum, where it was lent what is left of the tree's lists; a page that is named is damaged. It writes no page that a seat
-- pins, in so many calls at most.
pub record TellsQuantum (IsLent : Tree → Type 0) (most : ℕ) (Took : Tree → ℕ → Type 0) (IsDamage : ℕ → List ℕ → Type 0) (old new : RunsState)
    (result : Result ℕ Broken) (before after : DiskState) : Type 0 where
  pub stands : (tree : Tree) → IsTrue before.is_honest → StandOver old tree before → StandsOn old.sizes tree after
      × LeavesOnly before after (HoldsTree old.sizes tree)
  pub lists : (tree : Tree) → IsTrue before.is_honest → StandOver old tree before → IsLent tree → result ≢ Err Fault
      → (n : ℕ) × (result ≡ Ok n) × StandOver new tree after × Took tree n
  pub running : OnOk result (AreRunning after.is_honest after.bytes new)
  pub damaged : (n : ℕ) → result ≡ Err (Damaged n) → IsTrue before.tells_bytes → IsDamage n after.bytes
  pub effect : Affects (beside_pins old.sizes old.space.pins) (file_length old.sizes) most before after
  pub faults : TellsFaultsBy (Err Fault) result before after

-- how far the merges have come: the greatest keys that they took
abbrev pub cursor_of_pass : Option SnowState → Option Key
cursor_of_pass None = None
cursor_of_pass (Some snow) = snow.at

abbrev pub cursor_of_deep : Option DeepState → Option Key
cursor_of_deep None = None
cursor_of_deep (Some merge) = merge.at

-- Above the pass's cursor this table has what the tree's list of table A has.
abbrev pub HasAllAhead : Option SnowState → Entries → Tree → Type 0
HasAllAhead pass table tree = above (cursor_of_pass pass) (replayed tree.lane_a.entries) ≡ above (cursor_of_pass pass) table

-- The deep merge's run is C2 now: its tag is C2's, and the tag of the old C2 is free for the next run. Filters and fences go with their tags, so
-- none of them moves.
pub record SwapsDeep (old new : RunsState) : Type 0 where
  pub sizes : new.sizes ≡ old.sizes
  pub catalogue : new.catalogue ≡ with_deep_run (made_by_deep old.deep) old.catalogue
  pub tags : new.tags ≡ record old.tags { c2 = old.tags.deep; deep = old.tags.c2 }
  pub pass : new.pass ≡ old.pass
  pub deep : new.deep ≡ None
  pub pins : new.space.pins ≡ old.space.pins
  pub guides : new.guides ≡ old.guides
  pub quanta : new.quanta ≡ old.quanta

-- C1 is C1' now, and a deep merge begins
pub record Rotates (old new : RunsState) : Type 0 where
  pub sizes : new.sizes ≡ old.sizes
  pub catalogue : new.catalogue ≡ with_rotation old.catalogue
  pub tags : new.tags ≡ record old.tags { c1 = old.tags.c1x; c1x = old.tags.c1 }
  pub pass : new.pass ≡ old.pass
  pub deep : new.deep ≡ Some (deep_started old.tags.deep old.catalogue.c1 old.catalogue.c2)
  pub pins : new.space.pins ≡ old.space.pins
  pub guides : new.guides ≡ emptied old.tags.deep (deep_bits old.sizes old.catalogue.c1 old.catalogue.c2) old.guides
  pub quanta : new.quanta ≡ old.quanta

-- the pass's run is C1 now, or C1' with a deep merge that begins
abbrev pub tags_after_pass : Bool → Tags → Tags
tags_after_pass rotates tags =
    if rotates then record tags { c1 = tags.c1x; c1x = tags.pass; pass = tags.c1 } else record tags { c1 = tags.pass; pass = tags.c1 }

pub record SwapsPass (old new : RunsState) : Type 0 where
  pub sizes : new.sizes ≡ old.sizes
  pub catalogue : new.catalogue ≡ with_pass_run old.sizes (made_by_pass old.pass) (progress_of old.catalogue old.deep) old.catalogue
  pub tags : new.tags ≡ tags_after_pass (is_full old.sizes (made_by_pass old.pass)) old.tags
  pub pass : new.pass ≡ None
  pub deep : new.deep ≡ (if is_full old.sizes (made_by_pass old.pass) then Some (deep_started old.tags.deep (made_by_pass old.pass) old.catalogue.c2) else old.deep)
  pub pins : new.space.pins ≡ old.space.pins
  pub guides : new.guides
      ≡ (if is_full old.sizes (made_by_pass old.pass) then emptied old.tags.deep (deep_bits old.sizes (made_by_pass old.pass) old.catalogue.c2) old.guides else old.guides)
  pub quanta : new.quanta ≡ old.quanta

-- what a swap leaves of the disk: the old tree or the next, in each image of each moment; once it is done the disk stands on the next
pub record LeavesSwapped (old new : RunsState) (one next : Tree) (done : Bool) (before after : DiskState) : Type 0 where
  pub each : LeavesOnly before after (HoldsEither old.sizes one next)
  pub either : StandsOnEither old.sizes one next after
  pub stands : IsTrue done → StandOver new next after

-- ---- holds

-- A hold of the components, or of what a pass has finished in place of a part of C1, has no more pages than a seat may pin: what was finished and what was
-- left of C1 then, C1' and C2 weigh no more than the capacity.
pub record HoldFits (runs : RunsState) (a : Entries) : Type 0 where
  pub live : runs.catalogue.c1.weight + runs.catalogue.c1x.weight + runs.catalogue.c2.weight ≤ capacity runs.sizes
  pub total : ℕ
  pub covers : PassCovers total runs.pass a
  pub room : total + runs.catalogue.c1x.weight + runs.catalogue.c2.weight ≤ capacity runs.sizes

-- Of C1 the part from the page on that had the head of the pass's cursor when the key of the finished pages was told: what C1 has above that key is there.
-- It counts where table A was dropped.
abbrev pub part_behind : Option Key → Option SnowState → Option Component
part_behind None pass = None
part_behind (Some floor) None = None
part_behind (Some floor) (Some snow) = Some snow.rest.behind

-- Of two parts that both end where their component does, the one that begins later. One without pages is the empty component.
abbrev pub later_part : Component → Option Component → Component
later_part part None = part
later_part part (Some behind) = if nat_lt behind.pages part.pages then (if nat_eq behind.pages 0 then empty_component else behind) else part

-- What is read up to the floor in place of C1: of the pass's finished pages the part from the page on that the fences name for low. None is read where low
-- is above the floor.
abbrev pub IsFrontFrom : RunsState → Option Key → Key → Component → Type 0
IsFrontFrom runs floor low front =
    ((is_above floor low ≡ true) × (front ≡ empty_component))
    ⊎ ((is_above floor low ≡ false) × IsPartFrom low (fences_of_tag runs runs.tags.pass).list (front_of (finished_by_pass runs.pass)) front)

-- And what is read of C1: the part from the page on that the fences name for low; or that behind the finished pages, where this begins later.
abbrev pub IsOlderFrom : RunsState → Option Key → Key → Component → Type 0
IsOlderFrom runs floor low c1 =
    (part : Component) × IsPartFrom low (fences_of_tag runs runs.tags.c1).list runs.catalogue.c1 part × (c1 ≡ later_part part (part_behind floor runs.pass))

-- The hold of these lists and components of a range from low on, where table A was dropped up to the floor: of C1' and C2 it has the parts from the page on
-- that the fences name for low.
pub record IsHeldFrom (runs : RunsState) (floor : Option Key) (low high : Key) (b a : Entries) (hold : HoldState) : Type 0 where
  pub front : Component
  pub c1 : Component
  pub c1x : Component
  pub c2 : Component
  pub of_front : IsFrontFrom runs floor low front
  pub of_c1 : IsOlderFrom runs floor low c1
  pub of_c1x : IsPartFrom low (fences_of_tag runs runs.tags.c1x).list runs.catalogue.c1x c1x
  pub of_c2 : IsPartFrom low (fences_of_tag runs runs.tags.c2).list runs.catalogue.c2 c2
  pub hold_is : hold ≡ held_from low high b a front floor c1 c1x c2

-- ---- what a hold pins

-- one of these fences names the page, and it has the tag
abbrev pub IsNamed : SpaceState → ℕ → List Fence → ℕ → Type 0
IsNamed space tag fences page = Contains (map (λ f. f.page) fences) page × HasRole space tag page

-- The seat pins, beside what it pinned, just the pages with this tag that these fences name.
pub record PinsNamed (seat tag : ℕ) (fences : List Fence) (old new : SpaceState) : Type 0 where
  pub others : KeepsOtherPins seat old new
  pub roles : new.roles ≡ old.roles
  pub pages : new.pages ≡ old.pages
  pub shape : IsSpace new
  pub pinned : (page : ℕ) → IsPinnedBy new seat page ↔ (IsPinnedBy old seat page ⊎ IsNamed old tag fences page)
  pub freed : (page : ℕ) → IsFree new page → IsFree old page
  pub size : pin_size new seat ≤ pin_size old seat + length fences

-- The page is one of C1' or C2; or the fences name it as one of this part of the finished pages, or of this part of C1, and it has the tag of these.
abbrev pub IsOfParts : RunsState → (front c1 : Component) → ℕ → Type 0
IsOfParts runs front c1 page =
    (HasRole runs.space runs.tags.c1x page ⊎ HasRole runs.space runs.tags.c2 page)
    ⊎ (IsNamed runs.space runs.tags.pass (last_fences (front_of (finished_by_pass runs.pass)) front (fences_of_tag runs runs.tags.pass).list) page
    ⊎ IsNamed runs.space runs.tags.c1 (last_fences runs.catalogue.c1 c1 (fences_of_tag runs runs.tags.c1).list) page)

-- The seat pins just these, and none that it pinned before. Nothing else of the map has changed.
pub record PinsParts (seat : ℕ) (front c1 : Component) (runs : RunsState) (new : SpaceState) : Type 0 where
  pub others : KeepsOtherPins seat runs.space new
  pub roles : new.roles ≡ runs.space.roles
  pub pages : new.pages ≡ runs.space.pages
  pub shape : IsSpace new
  pub pinned : (page : ℕ) → IsPinnedBy new seat page ↔ IsOfParts runs front c1 page
  pub freed : (page : ℕ) → IsFree new page → IsFree runs.space page ⊎ IsPinnedBy runs.space seat page
  pub size : pin_size new seat ≤ role_size runs.space runs.tags.c1x + role_size runs.space runs.tags.c2 + front.pages + c1.pages

-- What a hold pins: the pages of C1, C1' and C2; or, where table A was dropped, those of C1' and C2, and of what it reads of the finished pages and of C1.
abbrev pub PinsFor : Option Key → ℕ → (front c1 : Component) → RunsState → SpaceState → Type 0
PinsFor None seat front c1 runs new = Pins seat runs.tags.c1 runs.tags.c1x runs.tags.c2 runs.space new
PinsFor (Some floor) seat front c1 runs new = PinsParts seat front c1 runs new
