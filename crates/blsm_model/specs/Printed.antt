-- The printed text of a run.
use Rattle.std.specs.Prelude.{ℕ, ◌+◌, List, [], ◌∷◌, ◌++◌, length, codes, decimal, flat_map, Option, Some, None}
use Rattle.blsm_model.specs.declared.row.Value.{Value}
use Rattle.blsm_model.specs.declared.row.Row.{Row}
use Rattle.blsm_model.specs.declared.op.Op.{Op}
use Rattle.blsm_model.specs.declared.op.Op.TheVariants.{Put, Add, Tail, Del, New, Swap, Get, Hold, Next, Release, Work}
use Rattle.blsm_model.specs.declared.history.Why.{Why}
use Rattle.blsm_model.specs.declared.history.Why.TheVariants.{Faulted, BadPage}
use Rattle.blsm_model.specs.declared.history.Reply.{Reply}
use Rattle.blsm_model.specs.declared.history.Reply.TheVariants.{
  Done,
  Is,
  Absent,
  Kept,
  Held,
  Rows,
  NoHold,
  Did,
  Full,
  NoMemory,
  FaultLost,
  FaultUnsure,
  Fault,
  Damaged,
  Stopped,
}
use Rattle.blsm_model.specs.declared.history.Entry.{Entry}
use Rattle.blsm_model.specs.declared.history.Totals.{Totals}

-- a word with a space before it
abbrev pub and_word : List ℕ → List ℕ
and_word word = 32 ∷ word

abbrev pub and_number : ℕ → List ℕ
and_number n = 32 ∷ decimal n

-- the empty text is spelled as a dash
abbrev pub spelled : List ℕ → List ℕ
spelled [] = 45 ∷ []
spelled (byte ∷ bytes) = byte ∷ bytes

abbrev pub and_value : Value → List ℕ
and_value value = and_number value.count ++ and_word (spelled value.text)

-- a value, or that there is none
abbrev pub and_found : Option Value → List ℕ
and_found None = and_word (codes "none")
and_found (Some value) = and_value value

abbrev pub and_row : Row → List ℕ
and_row row = and_word row.key ++ and_value row.value

-- a command as a script spells it
abbrev pub command_text : Op → List ℕ
command_text (Put key value) = codes "put" ++ and_word key ++ and_value value
command_text (Add key count) = codes "add" ++ and_word key ++ and_number count
command_text (Tail key tail) = codes "tail" ++ and_word key ++ and_word tail
command_text (Del key) = codes "del" ++ and_word key
command_text (New key value) = codes "new" ++ and_word key ++ and_value value
command_text (Swap key count value) = codes "swap" ++ and_word key ++ and_number count ++ and_value value
command_text (Get key) = codes "get" ++ and_word key
command_text (Hold low high) = codes "hold" ++ and_word low ++ and_word high
command_text (Next n) = codes "next" ++ and_number n
command_text Release = codes "drop"
command_text (Work n) = codes "work" ++ and_number n

-- why the store is stopped
abbrev pub why_text : Why → List ℕ
why_text (Faulted faults) = codes "fault" ++ and_number faults
why_text (BadPage page) = codes "page" ++ and_number page

-- a reply
abbrev pub reply_text : Reply → List ℕ
reply_text Done = codes "ok"
reply_text (Is value) = codes "is" ++ and_value value
reply_text Absent = codes "none"
reply_text (Kept found) = codes "kept" ++ and_found found
reply_text Held = codes "held"
reply_text (Rows rows) = codes "rows" ++ and_number (length rows) ++ flat_map and_row rows
reply_text NoHold = codes "nohold"
reply_text (Did turns) = codes "did" ++ and_number turns
reply_text (Full charge) = codes "full" ++ and_number charge
reply_text NoMemory = codes "no memory"
reply_text FaultLost = codes "fault lost"
reply_text FaultUnsure = codes "fault unsure"
reply_text Fault = codes "fault"
reply_text (Damaged page) = codes "damaged page" ++ and_number page
reply_text (Stopped why) = codes "stopped" ++ and_word (why_text why)

-- one entry, its place counted from 1, with the quanta that its caller took for it
abbrev pub entry_text : ℕ → Entry → ℕ → List ℕ
entry_text place e quanta =
    decimal place ++ and_number (e.seat + 1) ++ and_word (command_text e.op)
    ++ codes " => " ++ reply_text e.reply ++ codes " q" ++ decimal quanta ++ 10 ∷ []

-- entries and their quanta, one line each
abbrev pub entries_text : ℕ → List Entry → List ℕ → List ℕ
entries_text place (e ∷ es) (quanta ∷ more) = entry_text place e quanta ++ entries_text (place + 1) es more
entries_text place _ _ = []

-- the last line: the greatest weight of the memory table and its high mark, the quanta of callers and of workers, the
-- swaps that ended a pass and those that ended a deep merge
abbrev pub end_text : Totals → List ℕ
end_text t =
    codes "end c0" ++ and_number t.peak ++ codes " of" ++ and_number t.high
    ++ codes " callers" ++ and_number t.callers ++ codes " workers" ++ and_number t.workers
    ++ codes " swaps" ++ and_number t.passes ++ and_number t.deeps ++ 10 ∷ []

-- what a run writes: the charge at the opening, the entries, the totals
abbrev pub history_text : ℕ → List Entry → List ℕ → Totals → List ℕ
history_text charge history quanta totals =
    codes "open charge" ++ and_number charge ++ 10 ∷ [] ++ entries_text 1 history quanta ++ end_text totals
