-- What the images show of each call that writes: a swap, a rotation, and an append, which may fail and leave either tree.
use Rattle.std.specs.Prelude.{ℕ, ◌+◌, List, [], ◌∷◌, ◌++◌, length}
use Rattle.blsm_model.specs.declared.key.Key.{Key}
use Rattle.blsm_model.specs.declared.row.Value.{Value}
use Rattle.blsm_model.specs.declared.op.Op.{Op}
use Rattle.blsm_model.specs.declared.history.Entry.{Entry}
use Rattle.blsm_model.specs.declared.history.Reply.{Reply}
use Rattle.tree_machine.specs.Machine.{Machine}
use Rattle.core_lists.specs.Shown.{ShowsHistory, WeighsWithin}

-- ---- a write that is appended

-- the history with the write's entry
abbrev pub history_with : ℕ → Op → Reply → Machine → List Entry
history_with seat op reply m = m.book.entries ++ record { seat = seat; op = op; reply = reply } ∷ []

-- all of the history with the write's entry, and no work that the machine doesn't count
abbrev pub ShowsNoted : List (Key × Value) → ℕ → Op → Reply → Machine → List ℕ → Type 0
ShowsNoted opening seat op reply m file =
    ShowsHistory m.gears.sizes opening (history_with seat op reply m) (length m.book.entries + 1) file × WeighsWithin m (history_with seat op reply m) file
