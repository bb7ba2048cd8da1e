-- The run of a script over the store on a disk: what it leaves to be printed, and what holds of it on every disk, honest or not.
use Rattle.std.specs.Prelude.{◌≡◌, ◌≤◌, ◌<◌, ◌+◌, ◌*◌, ◌||◌, ℕ, Bool, true, false, None, Some, List, ◌∷◌, ◌++◌, slice_index, sum}
use Rattle.std.specs.List.{AllByRecursion, list_any}
use Rattle.refusal.specs.Count.{HasRisenBy}
use Rattle.blsm_model.specs.Geometry.{capacity, high_mark}
use Rattle.blsm_model.specs.Format.{callers}
use Rattle.blsm_model.specs.Scripts.{IsOfScript, asked, asked_in}
use Rattle.blsm_model.specs.Sizes.{Sizes, IsGeometry}
use Rattle.blsm_model.specs.declared.history.Entry.{Entry}
use Rattle.blsm_model.specs.declared.history.Line.{Line}
use Rattle.blsm_model.specs.declared.history.Totals.{Totals}
use Rattle.blsm_model.specs.declared.history.Why.TheVariants.{BadPage}
use Rattle.blsm_model.specs.declared.room.Room.{Room}
use Rattle.core_moves.specs.declared.held.Held.{Held}
use Rattle.core_moves.specs.Held.{charge_in}
use Rattle.disk_trait.specs.Disk.{DiskState, GoesOn}
use Rattle.gear_sched.specs.Gears.{GearState, first_debt, second_debt}
use Rattle.seat_book.specs.Seats.{turns_in}
use Rattle.seat_book.specs.State.{BookState, totals_in, work_in}
use Rattle.tree_log.specs.Log.{resident_in}
use Rattle.tree_core.specs.Calls.{AreCalls}
use Rattle.tree_core.specs.Core.{CoreState}
use Rattle.tree_core.specs.Notes.{HasLeft}
use Rattle.tree_machine.specs.Machine.{seats}
use Rattle.tree_machine.specs.Outcomes.{is_by_page, is_damaged}
use Rattle.tree_machine.specs.Steps.{one_if}
use Rattle.tree_machine.specs.declared.step.Step.{Step}
use Rattle.tree_session.specs.Faults.{NamesCount, NamesStop, faults_told, is_by_fault}
use Rattle.tree_session.specs.Session.{TookFew}
use Rattle.core_chain.specs.Damage.{StopsAtPage}
use Rattle.core_chain.specs.Holds.{TellHolds}
use Rattle.core_chain.specs.Replies.{IsNoted}
use Rattle.core_chain.specs.Scans.{AreReadOnce}
use Rattle.core_chain.specs.Start.{IsUnasked}
use Rattle.tree_shared.specs.Runs.{SawFront}
use Rattle.core_chain.specs.Tells.{AreCalled, calls_of_all, lookups_failed}
use Rattle.core_pace.specs.Opening.{IsOpened}
use Rattle.recover_open.specs.Opening.{HasLengthOf, TakesFew, calls_taken, no_entries}
use Rattle.store_run.specs.declared.run.Ending.{Ending}
use Rattle.store_run.specs.declared.run.Ending.TheVariants.{Well, Faulted, Damaged}
use Rattle.store_run.specs.declared.run.Finished.{Finished}

-- The charge at the opening, the history, the quanta of each entry, the totals, and how much of the memory table was held in the end.
pub record Run : Type 0 where
  pub charge : ℕ
  pub entries : List Entry
  pub quanta : List ℕ
  pub totals : Totals
  pub resident : ℕ

abbrev pub run_of : Finished → Run
run_of f = record { charge = f.charge; entries = f.annals.entries; quanta = f.annals.quanta; totals = f.totals; resident = f.resident }

-- what a core leaves to be printed that began with this charge
abbrev pub run_at : ℕ → Held → Run
run_at charge held = record {
  charge = charge;
  entries = held.book.book.entries;
  quanta = held.book.book.quanta;
  totals = totals_in (high_mark held.runs.sizes) (charge_in held) held.book;
  resident = resident_in held.log;
}

-- a page was found damaged, by a lookup, by a next or by a merge
abbrev pub finds_damage : Run → Bool
finds_damage run = list_any (λ e. is_damaged e.reply) run.entries || is_by_page run.totals.stopped

-- What is printed, whatever the disk is, and however the threads interleave.
-- so many merge workers helped, each of which takes so many turns at most
pub record IsRunOf (sizes : Sizes) (lines : List Line) (workers turns : ℕ) (run : Run) : Type 0 where
  pub geometry : IsGeometry sizes
  -- what was charged at the opening is within the capacity
  pub full : run.charge ≤ capacity sizes
  -- each caller's commands, once, in order
  pub of_script : IsOfScript lines run.entries
  -- a write took no more quanta than its work bound, a work of n turns no more than n, and the others none; their sum is printed
  pub few : TookFew sizes run.entries run.quanta
  pub callers : run.totals.callers ≡ sum run.quanta
  -- the workers took no more quanta than the turns that they may take, so none where there are none
  pub helped : run.totals.workers ≤ workers * turns
  -- a reply that the store is stopped names what stopped it
  pub stops : AllByRecursion (λ e. NamesStop e.reply run.totals.stopped) run.entries
  -- the memory table weighed no more than its bytes
  pub peak : run.totals.peak ≤ high_mark sizes
  pub high : run.totals.high ≡ high_mark sizes

-- And of one thread: the commands in the order of the lines, and nobody else works.
pub record IsRunInOrder (sizes : Sizes) (lines : List Line) (run : Run) : Type 0 where
  pub printed : IsRunOf sizes lines 0 0 run
  pub in_order : asked_in run.entries ≡ asked lines

-- In the end no caller's work is open, and none owes unless the store is stopped.
pub record HaveRested (gears : GearState) (book : BookState) : Type 0 where
  pub idle : (seat : ℕ) → seat < callers → (work_in seat book).turns ≡ 0
  pub even : book.stopped ≡ None → (seat : ℕ) → seat < callers → first_debt gears seat + second_debt gears seat ≡ 0

-- How callers and workers ended: each caller left, with no open work, and owes nothing unless the store is stopped; each worker took a turn, where it
-- takes any, and no more than it may, and no more quanta than turns. No other worker's seat took any.
pub record HaveEnded (workers turns : ℕ) (gears : GearState) (book : BookState) : Type 0 where
  pub left : (seat : ℕ) → seat < callers → HasLeft seat book
  pub idle : (seat : ℕ) → seat < callers → (work_in seat book).turns ≡ 0
  pub even : book.stopped ≡ None → (seat : ℕ) → seat < callers → first_debt gears seat + second_debt gears seat ≡ 0
  pub helped : 0 < turns → (i : ℕ) → i < workers → 0 < slice_index book.seats.turns i
  pub few : (i : ℕ) → i < workers → (slice_index book.seats.turns i ≤ turns) × (slice_index book.seats.quanta (callers + i) ≤ slice_index book.seats.turns i)
  pub rested : (seat : ℕ) → callers + workers ≤ seat → seat < seats → (turns_in seat book ≡ 0) × (slice_index book.seats.quanta seat ≡ 0)

-- The same of what is printed, on every disk: it is what a core left that they ended so.
pub record CameToEnd (workers turns : ℕ) (run : Run) : Type 0 where
  pub held : Held
  pub printed : run_at run.charge held ≡ run
  pub ended : HaveEnded workers turns held.gears held.book

-- how the run ended, by the disk's count of faults and what was found
abbrev pub IsEnding : Ending → Run → ℕ → Type 0
IsEnding Well run faults = (faults ≡ 0) × (finds_damage run ≡ false)
IsEnding Faulted run faults = 0 < faults
IsEnding Damaged run faults = (faults ≡ 0) × (finds_damage run ≡ true)

-- Faults are told only as the disk counted them: the count has risen for each reply that tells one, and it stands where none does and no fault
-- stopped the store. A stop by a fault names the count, which has risen.
pub record AreCounted (run : Run) (first last : DiskState) : Type 0 where
  pub risen : HasRisenBy (faults_told run.entries) first.faults last.faults
  pub quiet : faults_told run.entries ≡ 0 → is_by_fault run.totals.stopped ≡ false → last.faults ≡ first.faults
  pub stop : NamesCount run.totals.stopped first last

-- The core that the opening left of this disk, with this room: nothing was asked of it, and the opening made few calls, by what it read, none of
-- which failed, on a file that was as long as its sizes say.
pub record WasOpened {D : Type 0} (state : D → DiskState) (room : Room) (first : D) (core : CoreState D) : Type 0 where
  pub unasked : IsUnasked state core
  pub begins : IsOpened (no_entries room) (state core.disk).faults core.held
  -- its charge is what the catalogue's C1 and C2 weigh
  pub weighs : charge_in core.held ≡ core.held.runs.catalogue.c1.weight + core.held.runs.catalogue.c2.weight
  pub goes_on : GoesOn (state first) (state core.disk)
  -- it made no more calls than what it read takes
  pub takes : TakesFew core.held.runs.sizes (state first) (state core.disk)
  pub calm : (state core.disk).faults ≡ (state first).faults
  pub long : HasLengthOf core.held.runs.sizes (state first)

-- Calls of the core led from the store as it was opened on this disk to what is printed, and to the disk that came back, and each has its cause.
pub record HasCauses {D : Type 0} (state : D → DiskState) (room : Room) (run : Run) (first last : D) : Type 0 where
  pub calls : List (Step × CoreState D)
  pub opened : CoreState D
  pub end : CoreState D
  pub are : AreCalls state calls opened end
  pub last_is : end.disk ≡ last
  pub began : WasOpened state room first opened
  -- what is printed first is the charge of the one, and the rest the other's
  pub printed : run ≡ run_at (charge_in opened.held) end.held
  -- the calls of the disk, summed: those that what the opening read takes, and those that each call of the core may make
  pub summed : (state last).clock ≤ (state first).clock + (calls_taken began.takes + calls_of_all opened calls)
  -- each call of the core calls it no more often than it may between the cores before and after it
  pub called : AreCalled state opened calls
  -- and the nexts of one hold read each page once that it had ahead, and three more each at most
  pub once : AreReadOnce state calls opened
  -- its count has risen for each lookup that failed, and once more for a stop by a fault, whoever's call that was; replies tell of no others
  pub counted : HasRisenBy (lookups_failed run.entries + one_if (is_by_fault run.totals.stopped)) (state first).faults (state last).faults
  pub no_others : faults_told run.entries ≤ lookups_failed run.entries + one_if (is_by_fault run.totals.stopped)
  -- an entry's reply is due to what the call found that noted it
  pub replies : (front behind : List Entry) (e : Entry) → run.entries ≡ front ++ e ∷ behind → IsNoted state calls opened end front e
  -- no reply denies a hold or makes one up, and a next's rows are of the range that its caller holds, and rise on from those that were given before
  pub holds : TellHolds run.entries
  -- what each caller had seen when it left is a front of the history
  pub saw : (seat : ℕ) → seat < callers → SawFront state seat opened end
  -- a page that stopped the store was damaged by its bytes when a merge came to it
  pub stops : (page : ℕ) → run.totals.stopped ≡ Some (BadPage page) → StopsAtPage state calls opened end page
