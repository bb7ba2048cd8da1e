-- What contracts see of the components of a tree and of its merges, and what they keep on every disk. Weights are in bytes.
use Rattle.std.specs.Prelude.{◌≡◌, ◌≢◌, ⊤, ℕ, ◌+◌, ◌-◌, ◌*◌, ◌/◌, ◌<◌, ◌≤◌, Bool, List, [], ◌∷◌, length, Option, Some, None, if◌then◌else◌, max, min}
use Rattle.std.specs.Prelude.{nat_eq, option_map, slice_index_or, slice_set}
use Rattle.blsm_model.specs.declared.component.Component.{Component}
use Rattle.blsm_model.specs.Components.{empty_component}
use Rattle.blsm_model.specs.declared.key.Key.{Key}
use Rattle.blsm_model.specs.Format.{least_full}
use Rattle.blsm_model.specs.Sizes.{Sizes, IsGeometry}
use Rattle.blsm_model.specs.Geometry.{page_count, c1_mark, capacity}
use Rattle.bloom_bits.specs.BitSet.{BitState, cleared}
use Rattle.bloom_bits.specs.Fences.{FencesState}
use Rattle.bloom_bits.specs.Filter.{rounded}
use Rattle.catalog_swap.specs.declared.catalog.Catalog.{Catalog}
use Rattle.catalog_swap.specs.declared.catalog.Progress.{Progress}
use Rattle.record_delta.specs.Entries.{Entries}
use Rattle.page_space.specs.Space.{SpaceState, IsPinnedBy, IsSpace, HasRole, IsWithin, role_count, role_size, pin_size, seat_count}
use Rattle.run_writer.specs.Closed.{IsClosedPage}
use Rattle.merge_ends.specs.Merge.{finished_of}
use Rattle.merge_ends.specs.Output.{most_pages}
use Rattle.merge_ends.specs.Progress.{IsRunning, left_to_take}
use Rattle.merge_ends.specs.declared.finished.Finished.{Finished}
use Rattle.scan_view.specs.Pins.{IsUnpinned}
use Rattle.snow_merge.specs.Pass as pass
use Rattle.snow_merge.specs.Pass.{SnowState, Covers, progress_of_pass}
use Rattle.deep_merge.specs.Merge as deep
use Rattle.deep_merge.specs.Merge.{DeepState, progress_of_deep, taken_up}
use Rattle.tree_runs.specs.declared.resumable.Resumable.{Resumable}

-- which tags the pages of C1, C1', C2, of the pass's run and of the deep merge's run have
pub record Tags : Type 0 where
  pub c1 : ℕ
  pub c1x : ℕ
  pub c2 : ℕ
  pub pass : ℕ
  pub deep : ℕ

-- the filter and the fences of the pages that have one tag
pub record GuideState : Type 0 where
  pub filter : BitState
  pub fences : FencesState

-- The sizes of the store; its catalogue as last committed; the free-page map and what its tags stand for; the merges that run; by their tags, the
-- filters and fences of the components and of the runs; and how many quanta went well since the components were opened.
pub record RunsState : Type 0 where
  pub sizes : Sizes
  pub catalogue : Catalog
  pub space : SpaceState
  pub tags : Tags
  pub pass : Option SnowState
  pub deep : Option DeepState
  pub guides : List GuideState
  pub quanta : ℕ

-- ---- filters and fences, by tag

abbrev pub no_guide : GuideState
no_guide = record { filter = cleared 0 0; fences = record { reserved = 0; list = [] } }

abbrev pub guide_at : List GuideState → ℕ → GuideState
guide_at guides tag = slice_index_or guides tag no_guide

-- a tag's filter has so many bits now, and neither it nor the tag's fences have anything; as much is reserved as was
abbrev pub empty_guide : ℕ → GuideState → GuideState
empty_guide bits guide = record { filter = cleared guide.filter.reserved (rounded bits); fences = record { reserved = guide.fences.reserved; list = [] } }

abbrev pub emptied : ℕ → ℕ → List GuideState → List GuideState
emptied tag bits guides = slice_set guides tag (empty_guide bits (guide_at guides tag))

-- how much a pass's run weighs at most: C1 is below its mark, and the pass takes no more than three half springs beside it
abbrev pub run_most : Sizes → ℕ
run_most sizes = c1_mark sizes + 3 * sizes.half

-- The bits of a run's filter are as many as its input weighs bytes, and never more than there is room for: for a pass C1, the memory table
-- and one half that may come while it runs, for a deep merge C1' and C2.
abbrev pub pass_bits : Sizes → Component → ℕ → ℕ
pass_bits sizes c1 memory = min (c1.weight + memory + sizes.half) (run_most sizes)

abbrev pub deep_bits : Sizes → (c1x c2 : Component) → ℕ
deep_bits sizes c1x c2 = min (c1x.weight + c2.weight) (capacity sizes)

-- there is room for as many bits as a run of this weight has bytes, and for the fences of as many pages as so much may fill
pub record IsReserved (weight : ℕ) (guide : GuideState) : Type 0 where
  pub bits : rounded weight ≤ guide.filter.reserved
  pub pages : most_pages weight ≤ guide.fences.reserved

-- one that was just reserved
abbrev pub fresh_guide : ℕ → GuideState
fresh_guide weight = record { filter = cleared (rounded weight) (rounded 0); fences = record { reserved = most_pages weight; list = [] } }

-- Five that were just reserved, for a store whose C1' has this weight. C1' alone may be heavier than a pass's run, and only until it is merged.
abbrev pub fresh_guides : Sizes → ℕ → List GuideState
fresh_guides sizes c1x =
    fresh_guide (run_most sizes) ∷ fresh_guide (max (run_most sizes) c1x) ∷ fresh_guide (capacity sizes) ∷ fresh_guide (run_most sizes)
    ∷ fresh_guide (capacity sizes) ∷ []

-- There are five. A pass's run becomes C1 or C1', and a deep merge's run C2: so the tags of C1, C1' and the pass go round among themselves, with
-- room for the heaviest run of a pass, and those of C2 and the deep merge, with room for all that the components may weigh.
pub record AreGuides (sizes : Sizes) (tags : Tags) (guides : List GuideState) : Type 0 where
  pub five : length guides ≡ role_count
  pub c1 : IsReserved (run_most sizes) (guide_at guides tags.c1)
  pub c1x : IsReserved (run_most sizes) (guide_at guides tags.c1x)
  pub pass : IsReserved (run_most sizes) (guide_at guides tags.pass)
  pub c2 : IsReserved (capacity sizes) (guide_at guides tags.c2)
  pub deep : IsReserved (capacity sizes) (guide_at guides tags.deep)

-- ---- beginnings

-- after an opening: the tags in their order
abbrev pub first_tags : Tags
first_tags = record { c1 = 0; c1x = 1; c2 = 2; pass = 3; deep = 4 }

-- the deep merge that an opening goes on with: where C1' has pages, one that has taken nothing
abbrev pub due_deep : ℕ → Catalog → Option DeepState
due_deep tag catalogue = if nat_eq catalogue.c1x.pages 0 then None else Some (deep.started tag catalogue.c1x catalogue.c2)

-- and the filters and fences, of which those of its run are empty
abbrev pub due_guides : Sizes → Catalog → List GuideState → List GuideState
due_guides sizes catalogue guides =
    if nat_eq catalogue.c1x.pages 0 then guides else emptied first_tags.deep (deep_bits sizes catalogue.c1x catalogue.c2) guides

-- where what was finished of it is taken up, it goes on behind that, and its filter and fences are those of the finished pages
abbrev pub due_from : ℕ → Catalog → Option Resumable → Option DeepState
due_from tag catalogue None = due_deep tag catalogue
due_from tag catalogue (Some ahead) = Some (taken_up tag ahead.done ahead.inputs.value.c1x ahead.inputs.value.c2)

abbrev pub guides_from : Sizes → Catalog → Option Resumable → List GuideState → List GuideState
guides_from sizes catalogue None guides = due_guides sizes catalogue guides
guides_from sizes catalogue (Some ahead) guides = guides

-- No pass runs, and a deep merge just where C1' has pages.
abbrev pub opened : Sizes → Catalog → SpaceState → List GuideState → RunsState
opened sizes catalogue space guides = record {
  sizes = sizes;
  catalogue = catalogue;
  space = space;
  tags = first_tags;
  pass = None;
  deep = due_deep first_tags.deep catalogue;
  guides = due_guides sizes catalogue guides;
  quanta = 0;
}

-- the same with a deep merge that may be taken up
abbrev pub opened_from : Sizes → Catalog → SpaceState → List GuideState → Option Resumable → RunsState
opened_from sizes catalogue space guides ahead = record {
  sizes = sizes;
  catalogue = catalogue;
  space = space;
  tags = first_tags;
  pass = None;
  deep = due_from first_tags.deep catalogue ahead;
  guides = guides_from sizes catalogue ahead guides;
  quanta = 0;
}

-- a pass over C1 begins, beside a memory table of this weight
abbrev pub pass_begun : ℕ → RunsState → RunsState
pass_begun memory runs = record runs {
  pass = Some (pass.started runs.tags.pass runs.catalogue.c1);
  guides = emptied runs.tags.pass (pass_bits runs.sizes runs.catalogue.c1 memory) runs.guides;
}

-- ---- what is read off it

-- the filter, and the fences, of the pages that have a tag
abbrev pub filter_of : RunsState → ℕ → BitState
filter_of runs tag = (guide_at runs.guides tag).filter

abbrev pub fences_of_tag : RunsState → ℕ → FencesState
fences_of_tag runs tag = (guide_at runs.guides tag).fences

abbrev pub made_by_pass : Option SnowState → Component
made_by_pass None = empty_component
made_by_pass (Some snow) = snow.writer.component

abbrev pub made_by_deep : Option DeepState → Component
made_by_deep None = empty_component
made_by_deep (Some deep) = deep.writer.component

-- what the pass has finished of its run, where a page of it is closed
abbrev pub finished_by_pass : Option SnowState → Option Finished
finished_by_pass None = None
finished_by_pass (Some snow) = finished_of (pass.merge_of snow)

-- the key up to which that has all
abbrev pub released_by : Option SnowState → Option Key
released_by pass = option_map (λ done. done.key) (finished_by_pass pass)

-- and its pages, as a run that goes on: none, where none is closed
abbrev pub front_of : Option Finished → Component
front_of None = empty_component
front_of (Some done) = done.output

-- how much is left to be taken
abbrev pub left_for_pass : Option SnowState → Entries → ℕ
left_for_pass None a = 0
left_for_pass (Some snow) a = left_to_take (progress_of_pass snow a)

abbrev pub left_for_deep : Option DeepState → ℕ
left_for_deep None = 0
left_for_deep (Some merge) = left_to_take (progress_of_deep merge)

-- On any disk: what a pass took of this table and isn't on finished pages weighs no more than a page; and what was made and is left, or was left when the
-- key of the finished pages was told, weighs no more than so much in all.
abbrev pub PassCovers : ℕ → Option SnowState → Entries → Type 0
PassCovers total None a = ⊤
PassCovers total (Some snow) a = Covers total snow a

-- the pages in use by the components and the runs
abbrev pub pages_in_use : RunsState → ℕ
pages_in_use runs = runs.catalogue.c1.pages + runs.catalogue.c1x.pages + runs.catalogue.c2.pages + (made_by_pass runs.pass).pages + (made_by_deep runs.deep).pages

-- the pages that the components may have: those of three at capacity
abbrev pub page_share : Sizes → ℕ
page_share sizes = capacity sizes / least_full + 3

-- Those that a seat may pin. Where a hold reads a pass's finished pages and what is left of C1 in place of C1, these are two pages more at most.
abbrev pub hold_share : Sizes → ℕ
hold_share sizes = page_share sizes + 2

-- ---- what they keep

-- five tags, none twice
pub record AreTags (tags : Tags) : Type 0 where
  pub c1_below : tags.c1 < role_count
  pub c1x_below : tags.c1x < role_count
  pub c2_below : tags.c2 < role_count
  pub pass_below : tags.pass < role_count
  pub deep_below : tags.deep < role_count
  pub c1_c1x : tags.c1 ≢ tags.c1x
  pub c1_c2 : tags.c1 ≢ tags.c2
  pub c1_pass : tags.c1 ≢ tags.pass
  pub c1_deep : tags.c1 ≢ tags.deep
  pub c1x_c2 : tags.c1x ≢ tags.c2
  pub c1x_pass : tags.c1x ≢ tags.pass
  pub c1x_deep : tags.c1x ≢ tags.deep
  pub c2_pass : tags.c2 ≢ tags.pass
  pub c2_deep : tags.c2 ≢ tags.deep
  pub pass_deep : tags.pass ≢ tags.deep

-- a component without pages has nothing, and each of its pages but the last is nearly full
pub record IsFilled (component : Component) : Type 0 where
  pub none : component.pages ≡ 0 → component ≡ empty_component
  pub full : least_full * (component.pages - 1) ≤ component.weight

-- The component's pages, and no others, have its tag: so many.
pub record IsHeld (space : SpaceState) (tag : ℕ) (component : Component) : Type 0 where
  pub filled : IsFilled component
  pub size : role_size space tag ≡ component.pages

-- a running merge writes pages of its tag
abbrev pub PassHasTag : ℕ → Option SnowState → Type 0
PassHasTag tag None = ⊤
PassHasTag tag (Some snow) = snow.writer.role ≡ tag

abbrev pub DeepHasTag : ℕ → Option DeepState → Type 0
DeepHasTag tag None = ⊤
DeepHasTag tag (Some merge) = merge.writer.role ≡ tag

-- each page of the pass's run that a seat pins is a closed one
abbrev pub PinsOfPass : SpaceState → Option SnowState → Type 0
PinsOfPass space None = ⊤
PinsOfPass space (Some snow) = (seat page : ℕ) → IsPinnedBy space seat page → HasRole space snow.writer.role page → IsClosedPage space snow.writer page

-- where no deep merge runs C1' is empty
abbrev pub RestsEmpty : Option DeepState → Component → Type 0
RestsEmpty None c1x = c1x ≡ empty_component
RestsEmpty (Some merge) c1x = ⊤

-- no page has two tags
abbrev pub HasOneTag : SpaceState → Type 0
HasOneTag space = (page one other : ℕ) → HasRole space one page → HasRole space other page → one ≡ other

-- On every disk, until a call of a merge fails.
pub record AreRuns (runs : RunsState) : Type 0 where
  pub geometry : IsGeometry runs.sizes
  pub pages : runs.space.pages ≡ page_count runs.sizes
  pub shape : IsSpace runs.space
  pub tags : AreTags runs.tags
  pub one_tag : HasOneTag runs.space
  pub c1 : IsHeld runs.space runs.tags.c1 runs.catalogue.c1
  pub c1x : IsHeld runs.space runs.tags.c1x runs.catalogue.c1x
  pub c2 : IsHeld runs.space runs.tags.c2 runs.catalogue.c2
  pub pass : IsHeld runs.space runs.tags.pass (made_by_pass runs.pass)
  pub deep : IsHeld runs.space runs.tags.deep (made_by_deep runs.deep)
  pub pass_tag : PassHasTag runs.tags.pass runs.pass
  pub deep_tag : DeepHasTag runs.tags.deep runs.deep
  pub rests : RestsEmpty runs.deep runs.catalogue.c1x
  -- no seat pins the open page of the pass's run, nor a page of the deep merge's
  pub open_unpinned : PinsOfPass runs.space runs.pass
  pub deep_unpinned : IsUnpinned runs.space runs.tags.deep
  -- the tags' pages are these, and no seat pins more than its share
  pub within : IsWithin (pages_in_use runs) (hold_share runs.sizes) runs.space
  pub guides : AreGuides runs.sizes runs.tags runs.guides

-- how many pages a run has whose progress is named: the finished ones, and the next one
abbrev pub pages_named : Option Progress → ℕ
pages_named None = 0
pages_named (Some progress) = progress.output.pages + 1

-- What a reader of a store's file knows on every disk: the pages of C1, C1' and C2, and no others, have the tags 0, 1 and 2, and those of a deep
-- merge that is named the tag 4; none of them has two, and no seat pins one.
pub record AreRead (sizes : Sizes) (catalogue : Catalog) (space : SpaceState) : Type 0 where
  pub geometry : IsGeometry sizes
  pub pages : space.pages ≡ page_count sizes
  pub shape : IsSpace space
  pub one_tag : HasOneTag space
  pub c1 : IsHeld space first_tags.c1 catalogue.c1
  pub c1x : IsHeld space first_tags.c1x catalogue.c1x
  pub c2 : IsHeld space first_tags.c2 catalogue.c2
  pub pass : role_size space first_tags.pass ≡ 0
  pub deep : role_size space first_tags.deep ≡ pages_named catalogue.progress
  pub no_pins : (seat : ℕ) → seat < seat_count → pin_size space seat ≡ 0

-- Where the file is honest the runs' closed pages stand in it; on any disk the merges' cursors and runs are in order.
abbrev pub PassRuns : Sizes → Bool → List ℕ → SpaceState → GuideState → Option SnowState → Type 0
PassRuns sizes honest file space guide None = ⊤
PassRuns sizes honest file space guide (Some snow) = IsRunning sizes honest file space snow.writer snow.at (snow.c1 ∷ []) guide.filter guide.fences

abbrev pub DeepRuns : Sizes → Bool → List ℕ → SpaceState → GuideState → Option DeepState → Type 0
DeepRuns sizes honest file space guide None = ⊤
DeepRuns sizes honest file space guide (Some merge) = IsRunning sizes honest file space merge.writer merge.at (merge.c1x ∷ merge.c2 ∷ []) guide.filter guide.fences

pub record AreRunning (honest : Bool) (file : List ℕ) (runs : RunsState) : Type 0 where
  pub in_order : AreRuns runs
  pub pass : PassRuns runs.sizes honest file runs.space (guide_at runs.guides runs.tags.pass) runs.pass
  pub deep : DeepRuns runs.sizes honest file runs.space (guide_at runs.guides runs.tags.deep) runs.deep

-- what the pages must hold: the components, and the two runs with what is left for them, that of the pass within the room of its filter and fences
pub record Fits (runs : RunsState) (a : Entries) : Type 0 where
  pub live : runs.catalogue.c1.weight + runs.catalogue.c1x.weight + runs.catalogue.c2.weight ≤ capacity runs.sizes
  pub made : (made_by_pass runs.pass).weight + left_for_pass runs.pass a + ((made_by_deep runs.deep).weight + left_for_deep runs.deep) ≤ capacity runs.sizes
  pub pass : (made_by_pass runs.pass).weight + left_for_pass runs.pass a ≤ run_most runs.sizes
