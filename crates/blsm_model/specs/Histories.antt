-- Histories: their counted writes, the map after them, and the sequential map, which answers one command at a time.
use Rattle.std.specs.Prelude.{
  ◌≡◌,
  ℕ,
  ◌≤◌,
  Bool,
  true,
  false,
  not,
  ◌||◌,
  List,
  [],
  ◌∷◌,
  ◌++◌,
  take,
  drop,
  Option,
  Some,
  None,
  is_none,
  option_map,
  if◌then◌else◌,
  ◌==◌,
  fold,
  flat_map,
}
use Rattle.blsm_model.specs.declared.key.Key.{Key}
use Rattle.blsm_model.specs.declared.row.Value.{Value}
use Rattle.blsm_model.specs.declared.row.Row.{Row}
use Rattle.blsm_model.specs.declared.op.Write.{Write}
use Rattle.blsm_model.specs.declared.op.Write.TheVariants as write
use Rattle.blsm_model.specs.declared.op.Op.{Op}
use Rattle.blsm_model.specs.declared.op.Op.TheVariants.{Put, Add, Tail, Del, New, Swap, Get, Hold, Next, Release, Work}
use Rattle.blsm_model.specs.declared.history.Reply.{Reply}
use Rattle.blsm_model.specs.declared.history.Reply.TheVariants.{
  Done,
  Is,
  Absent,
  Kept,
  Held,
  Rows,
  NoHold,
  Did,
  Full,
  NoMemory,
  FaultLost,
  FaultUnsure,
  Fault,
  Damaged,
  Stopped,
}
use Rattle.blsm_model.specs.declared.history.Entry.{Entry}
use Rattle.blsm_model.specs.Values.{value_at}
use Rattle.blsm_model.specs.Rows.{map_of, rows, puts_of}

-- what a command writes
abbrev pub writes_of : Op → List Write
writes_of (Put key value) = write.Put key value ∷ []
writes_of (Add key count) = write.Add key count ∷ []
writes_of (Tail key tail) = write.Tail key tail ∷ []
writes_of (Del key) = write.Del key ∷ []
writes_of (New key value) = write.Put key value ∷ []
writes_of (Swap key count value) = write.Put key value ∷ []
writes_of _ = []

-- a write that first looks at its key
abbrev pub looks_first : Op → Bool
looks_first (New key value) = true
looks_first (Swap key count value) = true
looks_first _ = false

-- there is a value, and it has this count
abbrev pub has_count : ℕ → Option Value → Bool
has_count count None = false
has_count count (Some value) = value.count == count

-- whether its condition holds, by the value of its key: a new asks that there is none, a swap that there is one with its
-- count, and the others ask nothing
abbrev pub is_met_by : Op → Option Value → Bool
is_met_by (New key value) found = is_none found
is_met_by (Swap key count value) found = has_count count found
is_met_by _ found = true

-- what it looks at in a map that has this value of each key
abbrev pub looked_at : Op → (Key → Option Value) → Option Value
looked_at (New key value) has = has key
looked_at (Swap key count value) has = has key
looked_at _ has = None

abbrev pub is_met : Op → (Key → Option Value) → Bool
is_met op has = is_met_by op (looked_at op has)

-- the answer to a write: it is done, or what it found shows that its condition doesn't hold
abbrev pub answer_to_write : Op → (Key → Option Value) → Reply
answer_to_write op has = if is_met op has then Done else Kept (looked_at op has)

abbrev pub is_done : Reply → Bool
is_done Done = true
is_done _ = false

-- the counted writes of an entry: those that were answered Done
abbrev pub counted : Entry → List Write
counted entry = if is_done entry.reply then writes_of entry.op else []

abbrev pub counted_writes : List Entry → List Write
counted_writes history = flat_map counted history

-- what was written: a put for each pair of the opening map, then the counted writes
abbrev pub written : List (Key × Value) → List Entry → List Write
written opening history = puts_of opening ++ counted_writes history

-- the map after the history: each present key with its value, in key order
abbrev pub map_after : List (Key × Value) → List Entry → List (Key × Value)
map_after opening history = map_of (written opening history)

-- The sequential map: what was written so far, and the rows that each caller still holds, if it has a hold. No store is
-- under it.
pub record Object : Type 0 where
  pub writes : List Write
  pub held : ℕ → Option (List Row)

-- at the start nobody holds rows
abbrev pub fresh_object : List (Key × Value) → Object
fresh_object opening = record { writes = puts_of opening; held = λ seat. None }

abbrev pub answer_to_get : Option Value → Reply
answer_to_get None = Absent
answer_to_get (Some value) = Is value

-- what a map has: the value of each key, and the rows of each range
pub record Contents : Type 0 where
  pub value : Key → Option Value
  pub rows : Key → Key → List Row

-- the answer to a command that only looks
abbrev pub answer_to_look : Op → Contents → Reply
answer_to_look (Get key) contents = answer_to_get (contents.value key)
answer_to_look _ contents = Absent

abbrev pub answer_to_next : ℕ → Option (List Row) → Reply
answer_to_next n None = NoHold
answer_to_next n (Some held) = Rows (take n held)

abbrev pub answer_to_release : Option (List Row) → Reply
answer_to_release None = NoHold
answer_to_release (Some held) = Done

-- what the sequential map answers to a command
abbrev pub IsAnswer : Object → ℕ → Op → Reply → Type 0
IsAnswer object seat (Put key value) reply = reply ≡ Done
IsAnswer object seat (Add key count) reply = reply ≡ Done
IsAnswer object seat (Tail key tail) reply = reply ≡ Done
IsAnswer object seat (Del key) reply = reply ≡ Done
IsAnswer object seat (New key value) reply = reply ≡ answer_to_write (New key value) (value_at object.writes)
IsAnswer object seat (Swap key count value) reply = reply ≡ answer_to_write (Swap key count value) (value_at object.writes)
IsAnswer object seat (Get key) reply = reply ≡ answer_to_get (value_at object.writes key)
IsAnswer object seat (Hold low high) reply = reply ≡ Held
IsAnswer object seat (Next n) reply = reply ≡ answer_to_next n (object.held seat)
IsAnswer object seat Release reply = reply ≡ answer_to_release (object.held seat)
IsAnswer object seat (Work n) reply = (k : ℕ) × (k ≤ n) × (reply ≡ Did k)

-- the rows that a caller holds after a command of its own: a hold takes those of its moment, in place of any, a next
-- leaves the rest, a drop none
abbrev pub held_after : Op → List Write → Option (List Row) → Option (List Row)
held_after (Hold low high) writes held = Some (rows writes low high)
held_after (Next n) writes held = option_map (drop n) held
held_after Release writes held = None
held_after _ writes held = held

-- a refusal, after which the sequential map is as before
abbrev pub is_refusal : Reply → Bool
is_refusal (Full charge) = true
is_refusal NoMemory = true
is_refusal FaultLost = true
is_refusal FaultUnsure = true
is_refusal Fault = true
is_refusal (Damaged page) = true
is_refusal (Stopped why) = true
is_refusal _ = false

-- the sequential map after an entry
abbrev pub after : Object → Entry → Object
after object entry =
    record {
      writes = object.writes ++ counted entry;
      held = λ seat.
          if is_refusal entry.reply then object.held seat
          else (if seat == entry.seat then held_after entry.op object.writes (object.held seat) else object.held seat);
    }

-- a command that holds, takes or drops rows
abbrev pub moves_rows : Op → Bool
moves_rows (Hold low high) = true
moves_rows (Next n) = true
moves_rows Release = true
moves_rows _ = false

-- an entry that leaves a caller's rows: another caller's, a refusal, or no command on rows
abbrev pub leaves_rows : ℕ → Entry → Bool
leaves_rows seat entry = not (seat == entry.seat) || is_refusal entry.reply || not (moves_rows entry.op)

abbrev pub hold_by : ℕ → Key → Key → Entry
hold_by seat low high = record { seat = seat; op = Hold low high; reply = Held }

abbrev pub object_after : List (Key × Value) → List Entry → Object
object_after opening history = fold after (fresh_object opening) history
