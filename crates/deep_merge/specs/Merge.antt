-- What contracts see of a deep merge, and where it stands between C1' and C2. Weights are in bytes.
use Rattle.std.specs.Prelude.{ℕ, true, List, [], ◌∷◌, Option, Some, None}
use Rattle.blsm_model.specs.Components.{empty_component}
use Rattle.blsm_model.specs.declared.component.Component.{Component}
use Rattle.blsm_model.specs.declared.key.Key.{Key}
use Rattle.blsm_model.specs.Sizes.{Sizes}
use Rattle.bloom_bits.specs.BitSet.{BitState}
use Rattle.bloom_bits.specs.Fences.{FencesState}
use Rattle.record_delta.specs.Entries.{Entries}
use Rattle.page_space.specs.Space.{SpaceState}
use Rattle.run_cursor.specs.Cursor.{CursorState, started as cursor_started}
use Rattle.run_writer.specs.Writer.{WriterState, resumed, started as writer_started}
use Rattle.merge_ends.specs.Input.{left_in}
use Rattle.merge_ends.specs.Merge.{MergeState, Rest, IsMerging}
use Rattle.merge_ends.specs.Progress.{Progress}
use Rattle.merge_ends.specs.declared.finished.Finished.{Finished}

-- the run that is written, the cursors over C1' and C2, the greatest key that was taken, the one up to which all is on closed pages of the run,
-- how much was left of both above that one, and what the merge keeps of C2
pub record DeepState : Type 0 where
  pub writer : WriterState
  pub c1x : CursorState
  pub c2 : CursorState
  pub at : Option Key
  pub closed : Option Key
  pub left : ℕ
  pub rest : Rest

-- a deep merge is a merge of C1', whose cursor it owns
abbrev pub merge_of : DeepState → MergeState
merge_of deep = record { writer = deep.writer; older = deep.c2; at = deep.at; closed = deep.closed; left = deep.left; rest = deep.rest }

-- a merge that has taken nothing
abbrev pub started : ℕ → Component → Component → DeepState
started role c1x c2 = record {
  writer = writer_started role;
  c1x = cursor_started c1x;
  c2 = cursor_started c2;
  at = None;
  closed = None;
  left = 0;
  rest = record { here = c2; behind = c2 };
}

-- one that is taken up behind what was finished of it, where its cursors stand there
abbrev pub taken_up : ℕ → Finished → CursorState → CursorState → DeepState
taken_up role done c1x c2 = record {
  writer = resumed role done.output done.next;
  c1x = c1x;
  c2 = c2;
  at = Some done.key;
  closed = Some done.key;
  left = done.left;
  rest = record { here = empty_component; behind = empty_component };
}

-- where it stands by its numbers, between C1' and C2
abbrev pub progress_of_deep : DeepState → Progress
progress_of_deep deep = record { writer = deep.writer; at = deep.at; newer = left_in deep.at deep.c1x; older = left_in deep.at deep.c2; cursors = deep.c1x ∷ deep.c2 ∷ [] }

-- Of both lists, which stand on these pages, what is up to the greatest key taken was taken, folded key by key, settled, and pushed: bases only. What is above it is left.
abbrev pub IsMerge : Sizes → List ℕ → SpaceState → DeepState → BitState → FencesState → List ℕ → List ℕ → Entries → Entries → Type 0
IsMerge sizes file space deep filter fences newer_pages older_pages c1x c2 = IsMerging true sizes file space (merge_of deep) (Some deep.c1x) [] filter fences newer_pages older_pages c1x c2
