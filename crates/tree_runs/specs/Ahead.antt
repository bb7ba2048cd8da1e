-- What a deep merge goes on with that is taken up behind what was finished of it. Weights are in bytes.
use Rattle.std.specs.Prelude.{◌≡◌, ℕ, ◌+◌, ◌^◌, ◌<◌, ◌≤◌, Bool, true, List, Option, Some, None, ⊤}
use Rattle.blsm_model.specs.Sizes.{Sizes}
use Rattle.catalog_swap.specs.declared.catalog.Progress.{Progress}
use Rattle.record_delta.specs.Entries.{Entries}
use Rattle.page_file.specs.Component.{RunPage, entries_of, numbers_of}
use Rattle.page_space.specs.Space.{SpaceState}
use Rattle.run_writer.specs.Writer.{IsCounted, resumed}
use Rattle.merge_ends.specs.Input.{left_in, IsInput, IsReady}
use Rattle.merge_ends.specs.Merge.{HasFinished, IsFront}
use Rattle.tree_runs.specs.declared.resumable.Resumable.{Resumable}
use Rattle.tree_runs.specs.Runs.{GuideState}

-- On any disk: the merge may be taken up, by its numbers. What it has and what is left to it weigh no more than both inputs; and neither do what it
-- had taken before and what is left.
pub record MayResume (role : ℕ) (progress : Progress) (both : ℕ) (ahead : Resumable) : Type 0 where
  pub output_is : ahead.done.output ≡ progress.output
  pub next_is : ahead.done.next ≡ progress.next
  pub counted : IsCounted (resumed role ahead.done.output ahead.done.next)
  pub few : ahead.done.output.pages + 1 < 2 ^ 32
  pub newer_ready : IsReady (Some ahead.done.key) ahead.inputs.value.c1x
  pub older_ready : IsReady (Some ahead.done.key) ahead.inputs.value.c2
  pub left_is : ahead.done.left ≡ left_in (Some ahead.done.key) ahead.inputs.value.c1x + left_in (Some ahead.done.key) ahead.inputs.value.c2
  pub light : ahead.done.output.weight + ahead.done.left ≤ both
  pub left : progress.z + ahead.done.left ≤ both

-- In this file the finished pages have what comes of both lists up to the key, and less than comes of them in all; and the cursors have the rest,
-- on some of these pages.
pub record ResumesOver (sizes : Sizes) (file : List ℕ) (space : SpaceState) (role : ℕ) (guide : GuideState) (newer_pages older_pages : List ℕ)
    (newer older : Entries) (ahead : Resumable) : Type 0 where
  pub newer_is : IsInput sizes file space role (Some ahead.done.key) ahead.inputs.value.c1x newer_pages newer
  pub older_is : IsInput sizes file space role (Some ahead.done.key) ahead.inputs.value.c2 older_pages older
  pub pages : List RunPage
  pub finished : HasFinished sizes true file space role guide.filter guide.fences ahead.done pages
  pub front : IsFront true (Some ahead.done.key) (Some ahead.inputs.value.c1x) newer older (entries_of pages) ahead.done.left

-- What is taken up, if anything is, is what a catalogue names, if it names something.
abbrev pub IsAhead : ℕ → Option Progress → ℕ → Option Resumable → Type 0
IsAhead role progress both None = progress ≡ None
IsAhead role progress both (Some ahead) = (named : Progress) × (progress ≡ Some named) × MayResume role named both ahead

-- its finished pages have the tag, and the tag's filter and fences are those of them; in this file, where it is honest, they stand
abbrev pub IsAheadOn : Sizes → Bool → List ℕ → SpaceState → ℕ → GuideState → Option Resumable → Type 0
IsAheadOn sizes honest file space role guide None = ⊤
IsAheadOn sizes honest file space role guide (Some ahead) =
    (pages : List RunPage) × HasFinished sizes honest file space role guide.filter guide.fences ahead.done pages

-- and it goes on over components of these pages
abbrev pub IsAheadOver : Sizes → List ℕ → SpaceState → ℕ → GuideState → (c1x c2 : List RunPage) → Option Resumable → Type 0
IsAheadOver sizes file space role guide c1x c2 None = ⊤
IsAheadOver sizes file space role guide c1x c2 (Some ahead) =
    ResumesOver sizes file space role guide (numbers_of c1x) (numbers_of c2) (entries_of c1x) (entries_of c2) ahead
