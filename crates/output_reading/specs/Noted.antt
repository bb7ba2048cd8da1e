-- What is noted of an output while it is walked, and what a merge goes on with that is taken up behind it. Weights are in bytes.
use Rattle.std.specs.Prelude.{◌≡◌, ◌≢◌, ℕ, ◌+◌, ◌-◌, ◌^◌, ◌<◌, ◌≤◌, Bool, IsTrue, List, [], ◌++◌, length, Option, Some, None}
use Rattle.blsm_model.specs.declared.component.Component.{Component}
use Rattle.blsm_model.specs.declared.key.Key.{Key}
use Rattle.blsm_model.specs.Sizes.{Sizes}
use Rattle.record_delta.specs.Entries.{entries_weight}
use Rattle.page_file.specs.Page.{page_number}
use Rattle.page_file.specs.Component.{entries_of, first_number}
use Rattle.page_space.specs.Space.{SpaceState}
use Rattle.bloom_bits.specs.Guides.{Guide}
use Rattle.run_cursor.specs.Cursor.{AreFull, CursorState}
use Rattle.run_cursor.specs.Given.{HasGiven}
use Rattle.run_writer.specs.Run.{AreTagged, IsRun, Run, page_of, pages_of}
use Rattle.merge_ends.specs.Output.{EndBy, most_pages}
use Rattle.tree_runs.specs.declared.guides.PageStart.{PageStart}
use Rattle.tree_runs.specs.Runs.{GuideState, guide_at}
use Rattle.output_reading.specs.declared.inputs.Inputs.{Inputs}
use Rattle.output_reading.specs.declared.output.Output.{Output}
use Rattle.tree_runs.specs.declared.resumable.Resumable.{Resumable}
use Rattle.output_reading.specs.Walk.{IsEntered, left_of, unbounded}

-- ---- one entry further

-- Where the page begins that the cursor reads next, behind the entries that it has given; or it reads none.
abbrev pub StartsAt : CursorState → Option PageStart → Type 0
StartsAt cursor None = cursor.behind ≡ [] → cursor.pages ≡ 0
StartsAt cursor (Some start) =
    (cursor.behind ≡ []) × (0 < cursor.pages)
    × (start ≡ record { page = cursor.next; entries = 2 ^ 63 - cursor.entries; weight = 2 ^ 63 - cursor.weight })

-- The page that the cursor read, if it read one, was entered.
pub record IsOnward (old new : Output) (role : ℕ) (space now : SpaceState) : Type 0 where
  pub entered : IsEntered old new role space now
  pub turns : old.cursor.behind ≡ [] → 0 < old.cursor.pages → old.cursor.pages ≡ new.cursor.pages + 1
  pub stays : old.cursor.behind ≢ [] → new.cursor.pages ≡ old.cursor.pages
  pub fewer : new.cursor.pages ≤ old.cursor.pages

-- ---- what was met

-- On any disk: the entries that were met are on pages that have the tag, none of which has a key above this one, and filter and fences are those of
-- these pages. On an honest one they are the file's pages, of which the last one may have more.
pub record HasNoted (sizes : Sizes) (honest : Bool) (file : List ℕ) (of : Component) (role : ℕ) (output : Output) (space : SpaceState)
    (guide : GuideState)
    (at : Option Key) : Type 0 where
  pub run : Run
  pub is_run : IsRun run
  pub begun : run.entries ≡ [] → (run.closed ≡ []) × (output.cursor.behind ≡ [])
  pub tagged : AreTagged space role run
  pub guided : Guide guide.filter guide.fences (pages_of run)
  pub one_a_page : length guide.fences.list ≡ length (pages_of run)
  pub ends : EndBy at (entries_of (pages_of run))
  pub first_is : page_number (first_number (pages_of run) (Some output.cursor.next)) ≡ of.first
  pub pages_is : length (pages_of run) + output.cursor.pages ≡ of.pages + 1
  pub entries_is : length (entries_of (pages_of run)) + output.cursor.entries ≡ 2 ^ 63
  pub weight_is : entries_weight (entries_of (pages_of run)) + output.cursor.weight ≡ 2 ^ 63
  pub stands : IsTrue honest → (h : HasGiven sizes (unbounded of) output.cursor (entries_of (pages_of run)) file)
      × (h.pages ≡ run.closed ++ page_of run.number (run.entries ++ h.here))

-- there is a fence for the page that is read next, if one is
abbrev pub HasFence : CursorState → GuideState → Type 0
HasFence cursor guide = cursor.behind ≡ [] → length guide.fences.list < guide.fences.reserved

-- The tag has a filter and fences, with room for the pages of so much weight, and the cursor has given nothing yet.
pub record MayNote (of : Component) (role : ℕ) (output : Output) (guides : List GuideState) (weight : ℕ) : Type 0 where
  pub below : role < length guides
  pub full : AreFull (unbounded of) output.cursor
  pub all : output.cursor.weight ≡ 2 ^ 63
  pub room : most_pages weight ≤ (guide_at guides role).fences.reserved

-- ---- what a merge goes on with

-- the inputs as what goes on behind these pages
pub record GoesOnWith (inputs : Inputs) (output : Component) (next : ℕ) (ahead : Resumable) : Type 0 where
  pub at_is : inputs.at ≡ Some ahead.done.key
  pub newer_is : ahead.inputs.value.c1x ≡ inputs.newer
  pub older_is : ahead.inputs.value.c2 ≡ inputs.older
  pub output_is : ahead.done.output ≡ output
  pub next_is : ahead.done.next ≡ next
  pub left_is : ahead.done.left ≡ left_of inputs
