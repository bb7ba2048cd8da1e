-- Which maps a crash image may show after a history.
use Rattle.std.specs.Prelude.{◌≡◌, ℕ, ◌≤◌, Bool, true, false, ◌&&◌, ◌||◌, List, [], ◌++◌, length, if◌then◌else◌, flat_map}
use mathlib.Core.List.{IsPrefix}
use Rattle.blsm_model.specs.declared.key.Key.{Key}
use Rattle.blsm_model.specs.declared.row.Value.{Value}
use Rattle.blsm_model.specs.declared.op.Write.{Write}
use Rattle.blsm_model.specs.declared.history.Reply.{Reply}
use Rattle.blsm_model.specs.declared.history.Reply.TheVariants.{FaultUnsure}
use Rattle.blsm_model.specs.declared.history.Entry.{Entry}
use Rattle.blsm_model.specs.Rows.{map_of, puts_of}
use Rattle.blsm_model.specs.Histories.{is_done, writes_of}

abbrev pub is_unsure : Reply → Bool
is_unsure FaultUnsure = true
is_unsure _ = false

-- the writes of an entry that count, where a write that was answered FaultUnsure counts or not
abbrev pub counted_with : Bool → Entry → List Write
counted_with unsure entry = if is_done entry.reply || (unsure && is_unsure entry.reply) then writes_of entry.op else []

-- Pairs that an image may show: the map after a prefix of the history that has at least n entries, where a write that was
-- answered FaultUnsure is counted or not.
pub record Shows (pairs opening : List (Key × Value)) (history : List Entry) (n : ℕ) : Type 0 where
  pub front : List Entry
  pub unsure : Bool
  pub begins : IsPrefix front history
  pub enough : n ≤ length front
  pub map : pairs ≡ map_of (puts_of opening ++ flat_map (counted_with unsure) front)
