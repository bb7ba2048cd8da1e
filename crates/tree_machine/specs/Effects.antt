-- What a step leaves as it was, and which merge a quantum moves.
use Rattle.std.specs.Prelude.{◌≡◌, ◌+◌, ◌-◌, ℕ, Bool, true, false, Option, Some, IsTrue}
use Rattle.blsm_model.specs.declared.key.Key.{Key}
use Rattle.blsm_model.specs.declared.op.Op.{Op}
use Rattle.blsm_model.specs.declared.op.Op.TheVariants.{Hold, Next, Release}
use Rattle.blsm_model.specs.declared.history.Reply.{Reply}
use Rattle.blsm_model.specs.declared.history.Reply.TheVariants.{Done, Is, Absent, Kept, NoHold, Full, NoMemory, Fault, Damaged, Stopped}
use Rattle.record_delta.specs.Entries.{Entries, entries_weight, up_to}
use Rattle.tree_machine.specs.Merges.{Merge}
use Rattle.tree_machine.specs.Machine.{Machine}
use Rattle.tree_machine.specs.Moves.{note}
use Rattle.tree_machine.specs.Steps.{Outcome, Answer, Replied, Stepped, admit, look, hold, next_rows, drop_hold}

-- ---- refusals

-- these replies change nothing but the history
abbrev pub is_bare : Reply → Bool
is_bare (Is value) = true
is_bare Absent = true
is_bare (Kept found) = true
is_bare NoHold = true
is_bare (Full charge) = true
is_bare NoMemory = true
is_bare Fault = true
is_bare (Damaged page) = true
is_bare (Stopped why) = true
is_bare _ = false

-- what a step of a command replies
abbrev pub reply_of : Answer → Reply
reply_of (Replied reply) = reply
reply_of _ = Done

abbrev pub LeavesAll : Machine → ℕ → Op → Stepped → Type 0
LeavesAll m seat op made = IsTrue (is_bare (reply_of made.answer)) → made.state ≡ note seat op (reply_of made.answer) m

-- Commands that are refused or kept, or that only look, leave all but the entry: also a lookup that failed, by itself or before a write, which stops
-- nothing.
pub record LeaveAll (m : Machine) (seat : ℕ) (outcome : Outcome) : Type 0 where
  pub admit : (op : Op) → LeavesAll m seat op (admit m seat op outcome)
  pub look : (op : Op) → LeavesAll m seat op (look m seat op outcome)
  pub hold : (low high : Key) → LeavesAll m seat (Hold low high) (hold m seat low high outcome)
  pub next : (n : ℕ) → LeavesAll m seat (Next n) (next_rows m seat n outcome)
  pub drop : LeavesAll m seat Release (drop_hold m seat)

-- ---- work

-- the weight of the records whose keys the merge's cursor passes
abbrev pub passed_by : Option Merge → Option Merge → Entries → Entries → ℕ
passed_by (Some old) (Some new) newer older =
    (entries_weight (up_to new.cursor newer) + entries_weight (up_to new.cursor older)) - (entries_weight (up_to old.cursor newer) + entries_weight (up_to old.cursor older))
passed_by _ _ newer older = 0

-- what a step takes: what the cursors of both merges pass of their inputs
abbrev pub work_between : Machine → Machine → ℕ
work_between old new =
    passed_by old.merges.pass new.merges.pass old.lists.a old.lists.c1 + passed_by old.merges.deep new.merges.deep old.lists.c1x old.lists.c2
