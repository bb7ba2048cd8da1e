-- The newer input of a merge: a memory table, or a component. Of a component contracts see the cursor, of a table its entries. Weights are in bytes.
use Rattle.std.specs.Prelude.{◌≡◌, ⊤, ℕ, ◌+◌, List, [], ◌∷◌, Option, Some, None}
use Rattle.blsm_model.specs.declared.key.Key.{Key}
use Rattle.blsm_model.specs.Sizes.{Sizes}
use Rattle.record_delta.specs.Entries.{AreSorted, Entries, entries_weight, above}
use Rattle.page_space.specs.Space.{SpaceState}
use Rattle.run_cursor.specs.Cursor.{CursorState, from_head, IsDamageAt}
use Rattle.merge_ends.specs.Input.{left_in, IsReady, IsBehind, IsInput}

-- what of it is in memory: all of a table, or the entry at which a component's cursor is
abbrev pub at_hand : Option CursorState → Entries → Entries
at_hand None table = table
at_hand (Some cursor) table = from_head cursor.head []

-- how much is left above the key
abbrev pub newer_left : Option Key → Option CursorState → Entries → ℕ
newer_left at None table = entries_weight (above at table)
newer_left at (Some cursor) table = left_in at cursor

-- how much of a component is left above the key; of a table it isn't counted, since it may grow
abbrev pub component_left : Option Key → Option CursorState → ℕ
component_left at None = 0
component_left at (Some cursor) = left_in at cursor

-- what lists have above the key, of which the newer one counts where it is a component's
abbrev pub components_above : Option Key → Option CursorState → Entries → Entries → ℕ
components_above at None newer older = entries_weight (above at older)
components_above at (Some cursor) newer older = entries_weight (above at newer) + entries_weight (above at older)

-- how many of its pages aren't read yet, and how many calls of the disk one entry more may want
abbrev pub newer_pages : Option CursorState → ℕ
newer_pages None = 0
newer_pages (Some cursor) = cursor.pages

abbrev pub newer_calls : Option CursorState → ℕ
newer_calls None = 0
newer_calls (Some cursor) = 1

-- the cursors over the components among the inputs
abbrev pub cursors_with : Option CursorState → CursorState → List CursorState
cursors_with None older = older ∷ []
cursors_with (Some newer) older = newer ∷ older ∷ []

-- a table is always ready
abbrev pub IsNewerReady : Option Key → Option CursorState → Type 0
IsNewerReady at None = ⊤
IsNewerReady at (Some cursor) = IsReady at cursor

abbrev pub IsNewerBehind : Option Key → Option CursorState → Type 0
IsNewerBehind at None = ⊤
IsNewerBehind at (Some cursor) = IsBehind at cursor

abbrev pub IsNewerDamage : Sizes → Option CursorState → ℕ → List ℕ → Type 0
IsNewerDamage sizes None n file = ⊥
IsNewerDamage sizes (Some cursor) n file = IsDamageAt sizes cursor n file

-- In this file it has what the entries have above the key: a table in memory, whatever it has up to there, a component on some of these pages.
abbrev pub IsNewer : Sizes → List ℕ → SpaceState → ℕ → Option Key → Option CursorState → Entries → List ℕ → Entries → Type 0
IsNewer sizes file space role at None table pages entries = AreSorted entries × (above at entries ≡ above at table)
IsNewer sizes file space role at (Some cursor) table pages entries = IsInput sizes file space role at cursor pages entries
