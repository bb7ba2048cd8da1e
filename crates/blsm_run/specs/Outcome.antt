-- How a call ends, and what it writes then.
use Rattle.std.specs.Prelude.{◌≡◌, ◌⊎◌, ◌≤◌, ⊤, ℕ, Bool, true, false, List, [], ◌∷◌, ◌++◌, Option, Some, IfSome, codes, decimal}
use Rattle.std.specs.Prelude.{Result, Ok, Err, IsErr}
use Rattle.std.specs.List.{All}
use Rattle.refusal.specs.declared.Failed.{Failed}
use Rattle.text_io.specs.Text.{Adds, AddsFront, SinkState, Writes}
use Rattle.blsm_model.specs.declared.component.Component.{Component}
use Rattle.blsm_model.specs.declared.history.Totals.{Totals}
use Rattle.blsm_model.specs.Printed.{and_number, end_text, history_text}
use Rattle.core_moves.specs.declared.held.Settled.{Settled}
use Rattle.script_text.specs.Generated.{HasMadeKeys}
use Rattle.script_text.specs.Summary.{summary_text}
use Rattle.tree_reading.specs.declared.found.Place.{Place}
use Rattle.tree_reading.specs.declared.found.Place.TheVariants.{Slots, Lane, Page}
use Rattle.tree_reading.specs.declared.found.Unreadable.{Unreadable}
use Rattle.tree_reading.specs.declared.found.Unreadable.TheVariants as unreadable
use Rattle.tree_reading.specs.declared.report.Report.{Report}
use Rattle.recover_open.specs.declared.making.NotMade.{NotMade}
use Rattle.recover_open.specs.declared.making.NotMade.TheVariants as not_made
use Rattle.ship_text.specs.Ships.{most_first, printed_ships}
use Rattle.store_run.specs.declared.run.Ending.{Ending}
use Rattle.store_run.specs.declared.run.Ending.TheVariants as ending
use Rattle.store_run.specs.Run.{Run, run_of}
use Rattle.store_serve.specs.Told.{IsTold, closing_text, front_text, served_text}
use Rattle.store_serve.specs.declared.closing.Closing.{Closing}
use Rattle.store_serve.specs.declared.closing.Closing.TheVariants as closing
use Rattle.program_words.specs.declared.request.Options.{Options}
use Rattle.program_words.specs.declared.request.Unread.{Unread}
use Rattle.program_words.specs.declared.request.Unread.TheVariants as unread
use Rattle.blsm_run.specs.declared.outcome.Answer.{Answer}
use Rattle.blsm_run.specs.declared.outcome.Answer.TheVariants as answer
use Rattle.blsm_run.specs.declared.outcome.Refusal.{Refusal}
use Rattle.blsm_run.specs.declared.outcome.Refusal.TheVariants as refusal
use Rattle.blsm_run.specs.declared.status.Status.{Status}
use Rattle.blsm_run.specs.Outside.{HasRisenOnce}
use Rattle.blsm_run.specs.declared.status.Status.TheVariants.{Done, Usage, BadLine, TooBig, NotAStore, NotEmpty, Damaged, DiskFault, SourceFault, SinkFault, NoMemory, NoRoom}

-- how a call ends, if the sink takes all of its text
pub data Outcome : Type 0 where
  refused : Refusal → Outcome
  -- a store of this length was made
  made : ℕ → Outcome
  -- the script was run as the options say, and how the run ended
  ran : Options → Run → Ending → Outcome
  -- a session was served, whose first ship was to have this number, how its run ended, and why it did
  served : ℕ → Run → Ending → Closing → Outcome
  checked : Report → Outcome
  settled : Settled → Outcome
  -- the script of so many commands from this seed was run
  tried : ℕ → ℕ → Run → Outcome

-- as a program ends that has no memory for its call
abbrev pub no_memory : Outcome
no_memory = refused refusal.NoMemory

-- ---- what the program's own answers stand for

abbrev pub refusal_of_words : Unread → Refusal
refusal_of_words unread.Refused = refusal.Usage
refusal_of_words unread.NoMemory = refusal.NoMemory

abbrev pub refusal_of_store : Unreadable → Refusal
refusal_of_store unreadable.NotAStore = refusal.NotAStore
refusal_of_store (unreadable.Damaged place) = refusal.Damaged place
refusal_of_store (unreadable.Worn version) = refusal.Worn version
refusal_of_store unreadable.Fault = refusal.DiskFault
refusal_of_store unreadable.NoMemory = refusal.NoMemory

abbrev pub refusal_of_making : NotMade → Refusal
refusal_of_making (not_made.NotEmpty length) = refusal.NotEmpty length
refusal_of_making not_made.Fault = refusal.DiskFault

abbrev pub outcome_of : Result Answer Refusal → Outcome
outcome_of (Ok (answer.Made length)) = made length
outcome_of (Ok (answer.Ran options finished)) = ran options (run_of finished) finished.ending
outcome_of (Ok (answer.Served ships s)) = served ships (run_of s.finished) s.finished.ending s.closing
outcome_of (Ok (answer.Checked report)) = checked report
outcome_of (Ok (answer.Settled counts)) = settled counts
outcome_of (Ok (answer.Tried seed count finished)) = tried seed count (run_of finished)
outcome_of (Err why) = refused why

-- the keys of a trial's history are the generator's, by which its summary counts, and no number of a ship is too great
abbrev pub HasMadeAnswer : Answer → Type 0
HasMadeAnswer (answer.Tried seed count finished) = All (λ e. HasMadeKeys e.op) finished.annals.entries
HasMadeAnswer (answer.Ran options finished) = options.ships ≤ most_first
HasMadeAnswer _ = ⊤

-- ---- statuses

-- the exit status
abbrev pub code_of : Status → ℕ
code_of Done = 0
code_of Usage = 1
code_of BadLine = 2
code_of TooBig = 3
code_of NotAStore = 4
code_of NotEmpty = 5
code_of Damaged = 6
code_of DiskFault = 7
code_of SourceFault = 8
code_of SinkFault = 9
code_of NoMemory = 10
code_of NoRoom = 11

abbrev pub status_of_ending : Ending → Status
status_of_ending ending.Well = Done
status_of_ending ending.Faulted = DiskFault
status_of_ending ending.Damaged = Damaged

-- the sink's own status comes first, and then the disk's
abbrev pub status_of_session : Ending → Closing → Status
status_of_session end closing.SinkFault = SinkFault
status_of_session ending.Well closing.Ended = Done
status_of_session ending.Well (closing.BadLine n) = BadLine
status_of_session ending.Well (closing.NoRoom n) = NoRoom
status_of_session ending.Well closing.SourceFault = SourceFault
status_of_session end closing = status_of_ending end

abbrev pub status_of : Outcome → Status
status_of (refused refusal.Usage) = Usage
status_of (refused refusal.SourceFault) = SourceFault
status_of (refused refusal.TooBig) = TooBig
status_of (refused (refusal.BadLine n)) = BadLine
status_of (refused refusal.DiskFault) = DiskFault
status_of (refused refusal.NotAStore) = NotAStore
status_of (refused (refusal.NotEmpty n)) = NotEmpty
status_of (refused (refusal.Damaged place)) = Damaged
status_of (refused (refusal.Worn version)) = Damaged
status_of (refused refusal.NoMemory) = NoMemory
status_of (made length) = Done
status_of (ran options run end) = status_of_ending end
status_of (served ships run end closing) = status_of_session end closing
status_of (checked report) = Done
status_of (settled counts) = Done
status_of (tried seed count run) = Done

-- ---- texts

abbrev pub newline : List ℕ
newline = 10 ∷ []

abbrev pub place_text : Place → List ℕ
place_text Slots = codes "damaged slots" ++ newline
place_text (Lane lane) = codes "damaged lane " ++ decimal lane ++ newline
place_text (Page page) = codes "damaged page " ++ decimal page ++ newline

-- a component's name, entries and weight
abbrev pub and_component : List ℕ → Component → List ℕ
and_component name component = name ++ and_number component.entries ++ and_number component.weight

abbrev pub report_text : Report → List ℕ
report_text report =
    codes "ok version" ++ and_number report.version ++ and_component (codes " c1") report.c1 ++ and_component (codes " c1x") report.c1x
    ++ and_component (codes " c2") report.c2 ++ codes " lanes" ++ and_number report.lane_a ++ and_number report.lane_b ++ newline

-- a number behind its name
abbrev pub named_number : List ℕ → ℕ → List ℕ
named_number name n = name ++ and_number n

abbrev pub settled_text : Settled → List ℕ
settled_text counts =
    named_number (codes "settled version") counts.version ++ named_number (codes " quanta") counts.quanta ++ named_number (codes " of") counts.bound
    ++ newline

-- the line with what was held of the memory table in the end, where it is asked for
abbrev pub resident_text : Bool → ℕ → List ℕ
resident_text true weight = codes "resident " ++ decimal weight ++ newline
resident_text false weight = []

-- the history of a run, and behind it what the options ask for: what was held in the end, and the ships
abbrev pub run_text : Options → Run → List ℕ
run_text options run =
    history_text run.charge run.entries run.quanta run.totals ++ resident_text options.resident run.resident
    ++ printed_ships options.ships run.entries

abbrev pub text_of : Outcome → List ℕ
text_of (refused refusal.Usage) = codes "usage" ++ newline
text_of (refused refusal.SourceFault) = codes "source fault" ++ newline
text_of (refused refusal.TooBig) = codes "too big" ++ newline
text_of (refused (refusal.BadLine n)) = codes "bad line " ++ decimal n ++ newline
text_of (refused refusal.DiskFault) = codes "disk fault" ++ newline
text_of (refused refusal.NotAStore) = codes "not a store" ++ newline
text_of (refused (refusal.NotEmpty n)) = codes "not empty " ++ decimal n ++ newline
text_of (refused (refusal.Damaged place)) = place_text place
text_of (refused (refusal.Worn version)) = codes "worn " ++ decimal version ++ newline
text_of (refused refusal.NoMemory) = codes "no memory" ++ newline
text_of (made length) = codes "made " ++ decimal length ++ newline
text_of (ran options run end) = run_text options run
text_of (served ships run end closing) = served_text ships run.charge run.entries run.quanta run.totals closing
text_of (checked report) = report_text report
text_of (settled counts) = settled_text counts
text_of (tried seed count run) = summary_text seed count run.entries run.quanta run.totals

-- ---- the sink

-- The text is written and the status answered, and the sink's count stands; or the sink failed, once, and a front of the text is written, and its status answered.
abbrev pub Tells : SinkState → SinkState → Outcome → Status → Type 0
Tells sink sink_after outcome status =
    ((status ≡ status_of outcome) × Adds (text_of outcome) sink.held sink_after.held × (sink_after.faults ≡ sink.faults))
    ⊎ ((status ≡ SinkFault) × HasRisenOnce sink.faults sink_after.faults × AddsFront (text_of outcome) sink.held sink_after.held)

-- these bytes were added, and perhaps more behind them
abbrev pub AddsWithMore : List ℕ → Option (List ℕ) → Option (List ℕ) → Type 0
AddsWithMore text old new = IfSome old (λ held. (more : List ℕ) × (new ≡ Some (held ++ text ++ more)))

-- A session's lines are told one by one: what was written has the lines of all entries, and their ships, and perhaps more of the text; or the sink
-- failed at a line, once, and all lines and ships but the last entry's had been written whole, so that one command at most is done that isn't told,
-- or whose ship isn't. The source's count stands then, as `Cause` has it: so the source isn't asked before the last line is out.
abbrev pub TellsLines : Outcome → SinkState → SinkState → Type 0
TellsLines (served ships run end closing.SinkFault) sink sink_after =
    IsTold closing.SinkFault ships run.charge run.entries run.quanta sink sink_after
TellsLines (served ships run end closing) sink sink_after =
    AddsWithMore (front_text ships run.charge run.entries run.quanta) sink.held sink_after.held
TellsLines outcome sink sink_after = ⊤

-- ---- before the answer is told

-- a session has told its lines, as far as it came, and nothing else has told anything
abbrev pub HasTold : Outcome → SinkState → SinkState → Type 0
HasTold (served ships run end closing) sink sink_after = IsTold closing ships run.charge run.entries run.quanta sink sink_after
HasTold outcome sink sink_after = sink_after ≡ sink

-- what is still to be written of a session's text, or that its sink failed
abbrev pub WritesRest : Closing → Totals → Result (Unit {0}) Failed → SinkState → SinkState → Type 0
WritesRest closing.SinkFault totals result sink sink_after = IsErr result × (sink_after ≡ sink)
WritesRest closing totals result sink sink_after = Writes (end_text totals ++ closing_text closing) result sink sink_after

-- and of any text
abbrev pub WritesAnswer : Outcome → Result (Unit {0}) Failed → SinkState → SinkState → Type 0
WritesAnswer (served ships run end closing) result sink sink_after = WritesRest closing run.totals result sink sink_after
WritesAnswer outcome result sink sink_after = Writes (text_of outcome) result sink sink_after
