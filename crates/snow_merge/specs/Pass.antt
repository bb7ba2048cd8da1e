-- What contracts see of a pass, and where it stands between table A and C1. Weights are in bytes.
use Rattle.std.specs.Prelude.{ℕ, false, List, [], ◌∷◌, Option, None}
use Rattle.blsm_model.specs.declared.component.Component.{Component}
use Rattle.blsm_model.specs.declared.key.Key.{Key}
use Rattle.blsm_model.specs.Sizes.{Sizes}
use Rattle.bloom_bits.specs.BitSet.{BitState}
use Rattle.bloom_bits.specs.Fences.{FencesState}
use Rattle.record_delta.specs.Entries.{Entries, entries_weight, above}
use Rattle.page_space.specs.Space.{SpaceState}
use Rattle.run_cursor.specs.Cursor.{CursorState, started as cursor_started}
use Rattle.run_writer.specs.Writer.{WriterState, started as writer_started}
use Rattle.merge_ends.specs.Input.{left_in}
use Rattle.merge_ends.specs.Merge.{MergeState, Rest, Covers as MergeCovers, IsMerging}
use Rattle.merge_ends.specs.Progress.{Progress}

-- the run that is written, the cursor over C1, the greatest key that was taken, the one up to which all is on closed pages of the run,
-- how much was left of C1 above that one, and where C1 goes on
pub record SnowState : Type 0 where
  pub writer : WriterState
  pub c1 : CursorState
  pub at : Option Key
  pub closed : Option Key
  pub left : ℕ
  pub rest : Rest

-- a pass is a merge of table A, which is lent at each call
abbrev pub merge_of : SnowState → MergeState
merge_of snow = record { writer = snow.writer; older = snow.c1; at = snow.at; closed = snow.closed; left = snow.left; rest = snow.rest }

-- a pass over C1 that has taken nothing
abbrev pub started : ℕ → Component → SnowState
started role c1 = record { writer = writer_started role; c1 = cursor_started c1; at = None; closed = None; left = 0; rest = record { here = c1; behind = c1 } }

-- where it stands by its numbers, between table A and C1
abbrev pub progress_of_pass : SnowState → Entries → Progress
progress_of_pass snow a = record { writer = snow.writer; at = snow.at; newer = entries_weight (above snow.at a); older = left_in snow.at snow.c1; cursors = snow.c1 ∷ [] }

-- Of table A's list and of C1's, which stands on these pages, what is up to the greatest key taken was taken, folded key by key, and pushed; what is
-- above it is left.
abbrev pub IsPass : Sizes → List ℕ → SpaceState → SnowState → BitState → FencesState → List ℕ → Entries → Entries → Type 0
IsPass sizes file space snow filter fences pages a c1 = IsMerging false sizes file space (merge_of snow) None a filter fences [] pages a c1

-- On any disk: what of table A was taken and isn't on closed pages weighs no more than the open page has; and what was made and is left, or was left when
-- the key of the closed pages was told, weighs no more than so much in all.
abbrev pub Covers : ℕ → SnowState → Entries → Type 0
Covers total snow a = MergeCovers false total (merge_of snow) None a
