-- What contracts see of a merge of two inputs, and where it stands between them. Weights are in bytes.
use Rattle.std.specs.Prelude.{◌≡◌, ◌≢◌, ◌⊎◌, ℕ, ◌+◌, ◌/◌, ◌<◌, ◌≤◌, Bool, true, false, List, ◌++◌, length, Option, Some, None, IsSome, nat_lt, option_map, if◌then◌else◌}
use Rattle.blsm_model.specs.Components.{empty_component}
use Rattle.blsm_model.specs.declared.component.Component.{Component}
use Rattle.blsm_model.specs.declared.key.Key.{Key}
use Rattle.blsm_model.specs.Sizes.{Sizes}
use Rattle.bloom_bits.specs.BitSet.{BitState}
use Rattle.bloom_bits.specs.Fences.{FencesState}
use Rattle.bloom_bits.specs.Guides.{Guide}
use Rattle.page_file.specs.Page.{most_used}
use Rattle.page_file.specs.Component.{RunPage, ReadsOn, entries_of}
use Rattle.record_delta.specs.Entries.{Entries, above, entries_weight, folded_over, up_to}
use Rattle.page_space.specs.Space.{SpaceState}
use Rattle.run_cursor.specs.Cursor.{CursorState, started as cursor_started}
use Rattle.run_writer.specs.Writer.{WriterState, closed_entries, closed_of, HasEntries, IsResumed, resumed as writer_resumed, started as writer_started}
use Rattle.merge_ends.specs.Input.{left_in, FillsPages, IsInPart, IsInput}
use Rattle.merge_ends.specs.Newer.{IsNewer, component_left, components_above, cursors_with, newer_left}
use Rattle.merge_ends.specs.Output.{EndBy, HasRun, IsUpTo, kept}
use Rattle.merge_ends.specs.Progress.{Progress}
use Rattle.merge_ends.specs.declared.finished.Finished.{Finished}

-- The part of the older input from the page on that has the head of its cursor, and the one that this was when the key was told up to which all is
-- on closed pages.
pub record Rest : Type 0 where
  pub here : Component
  pub behind : Component

-- The run that is written, the cursor over the older input, the greatest key that was taken, the one up to which all is on closed pages of the run, and
-- how much was left of the components above that one; and where the older input goes on. The newer input is lent at each call.
pub record MergeState : Type 0 where
  pub writer : WriterState
  pub older : CursorState
  pub at : Option Key
  pub closed : Option Key
  pub left : ℕ
  pub rest : Rest

-- a merge that has taken nothing
abbrev pub started : ℕ → Component → MergeState
started role older = record {
  writer = writer_started role;
  older = cursor_started older;
  at = None;
  closed = None;
  left = 0;
  rest = record { here = older; behind = older };
}

-- a merge that is taken up behind what was finished of it, where its cursor over the older input stands there; no part of that is told
abbrev pub resumed : ℕ → Finished → CursorState → MergeState
resumed role done older = record {
  writer = writer_resumed role done.output done.next;
  older = older;
  at = Some done.key;
  closed = Some done.key;
  left = done.left;
  rest = record { here = empty_component; behind = empty_component };
}

-- what is on closed pages of its run, where there are any
abbrev pub finished_of : MergeState → Option Finished
finished_of merge =
    if nat_lt 1 merge.writer.component.pages
    then option_map (λ key. record { output = closed_of merge.writer; next = merge.writer.number; key = key; left = merge.left }) merge.closed
    else None

-- where it stands by its numbers, with a newer input that has this cursor, or is this table
abbrev pub progress : MergeState → Option CursorState → Entries → Progress
progress merge newer table =
    record { writer = merge.writer; at = merge.at; newer = newer_left merge.at newer table; older = left_in merge.at merge.older; cursors = cursors_with newer merge.older }

-- how much of the components among the inputs is left
abbrev pub components_left : MergeState → Option CursorState → ℕ
components_left merge input = component_left merge.at input + left_in merge.at merge.older

-- how many calls of the disk a group makes at most, and a quantum, since each group weighs 14 bytes at least
abbrev pub group_calls : Option CursorState → ℕ
group_calls None = 2
group_calls (Some cursor) = 3

abbrev pub quantum_calls : Option CursorState → ℕ → ℕ
quantum_calls None quantum = quantum / 7 + 2
quantum_calls (Some cursor) quantum = quantum / 4 + 3

-- On any disk: what of a table was taken and isn't on closed pages weighs no more than the open page has, where the merge doesn't settle. The part that
-- was told with the key of the closed pages weighs no more than what was left of the components then and one page, and fills its pages but the last.
-- With a table, the run and what is left weigh no more than so much in all; and neither do the closed pages, what was left of the older input when their
-- key was told, and what is left of the table. A merge that doesn't settle has a page once it took a key, and a closed one where the key of these is
-- told; what it has for the open page fits there.
pub record Covers (settles : Bool) (total : ℕ) (merge : MergeState) (input : Option CursorState) (table : Entries) : Type 0 where
  pub up : IsUpTo merge.closed merge.at
  pub light : settles ≡ false → input ≡ None → entries_weight (above merge.closed table) ≤ entries_weight (above merge.at table) + length merge.writer.buffer.text
  pub left : IsSome merge.closed → components_left merge input ≤ merge.left
  pub here : IsInPart merge.older merge.rest.here
  pub behind : IsSome merge.closed → (merge.rest.behind.weight ≤ merge.left + most_used) × FillsPages merge.rest.behind
  pub made : input ≡ None → merge.writer.component.weight + entries_weight (above merge.at table) + left_in merge.at merge.older ≤ total
  pub told : settles ≡ false → input ≡ None → IsSome merge.closed
      → (closed_of merge.writer).weight + entries_weight (above merge.at table) + merge.left ≤ total
  pub begun : settles ≡ false → IsSome merge.at → 0 < merge.writer.component.pages
  pub turned : settles ≡ false → IsSome merge.closed → 1 < merge.writer.component.pages
  pub fits : length merge.writer.buffer.text ≤ most_used

-- Of both lists, what is up to the greatest key taken was taken, folded key by key, settled where the merge settles, and pushed; what is above it is
-- left. The open page, if there is one, has an entry; or, of components, more is to come than was pushed, as where the merge was taken up. The closed
-- pages have what comes of both up to a key that isn't above that one. Where the newer list is a table's, the part in which the older input's cursor
-- stands has all that this list has above the greatest key taken, and the part that was told then all above the key of the closed pages.
pub record IsMerging (settles : Bool) (sizes : Sizes) (file : List ℕ) (space : SpaceState) (merge : MergeState) (input : Option CursorState) (table : Entries) (filter : BitState) (fences : FencesState) (newer_pages older_pages : List ℕ) (newer older : Entries) : Type 0 where
  pub newer_is : IsNewer sizes file space merge.writer.role merge.at input table newer_pages newer
  pub older_is : IsInput sizes file space merge.writer.role merge.at merge.older older_pages older
  pub run : HasRun sizes true file space merge.writer filter fences merge.at
  pub begun : HasEntries merge.writer ⊎ (IsSome input × (run.out ≢ kept settles (folded_over newer older)))
  pub out_is : run.out ≡ kept settles (folded_over (up_to merge.at newer) (up_to merge.at older))
  pub closed_up : IsUpTo merge.closed merge.at
  pub closed_is : closed_entries merge.writer run.out ≡ kept settles (folded_over (up_to merge.closed newer) (up_to merge.closed older))
  pub left_is : IsSome merge.closed → merge.left ≡ components_above merge.closed input newer older
  pub here_is : input ≡ None → IsInput sizes file space merge.writer.role merge.at (cursor_started merge.rest.here) older_pages older
  pub behind_is : input ≡ None → IsInput sizes file space merge.writer.role merge.closed (cursor_started merge.rest.behind) older_pages older

-- In this file the run's closed pages read as these entries, and go on with the open page; filter and fences are those of them and of pages behind.
pub record HasClosed (sizes : Sizes) (file : List ℕ) (writer : WriterState) (filter : BitState) (fences : FencesState) (entries : Entries) : Type 0 where
  pub pages : List RunPage
  pub behind : List RunPage
  pub reads : ReadsOn sizes (closed_of writer) pages (Some writer.number) file
  pub entries_are : entries_of pages ≡ entries
  pub guide : Guide filter fences (pages ++ behind)

-- These pages are what was finished of a run, which can be taken up behind them: none of their keys is above the one up to which all is on them.
-- Filter and fences are those of them.
pub record HasFinished (sizes : Sizes) (honest : Bool) (file : List ℕ) (space : SpaceState) (role : ℕ) (filter : BitState) (fences : FencesState)
    (done : Finished) (pages : List RunPage) : Type 0 where
  pub stand : IsResumed sizes honest file space role done.output done.next pages
  pub guide : Guide filter fences pages
  pub one_a_page : length fences.list ≡ done.output.pages
  pub ends : EndBy (Some done.key) (entries_of pages)

-- The entries are what comes of both lists, which are those of components, up to the key, and so much is left above it; they aren't all that comes.
pub record IsFront (settles : Bool) (at : Option Key) (input : Option CursorState) (newer older entries : Entries) (left : ℕ) : Type 0 where
  pub components : IsSome input
  pub up_to_key : entries ≡ kept settles (folded_over (up_to at newer) (up_to at older))
  pub more : entries ≢ kept settles (folded_over newer older)
  pub left_is : left ≡ components_above at input newer older
