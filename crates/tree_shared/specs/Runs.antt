-- Runs of a script by callers and workers.
use Rattle.std.specs.Prelude.{◌≡◌, ◌⊎◌, ℕ, zero, suc, ◌+◌, ◌-◌, ◌<◌, ◌≤◌, Bool, true, None, List, [], ◌∷◌, map, slice_index}
use mathlib.Core.List.{IsPrefix}
use Rattle.blsm_model.specs.Facts.{entries_of}
use Rattle.blsm_model.specs.Format.{callers}
use Rattle.blsm_model.specs.Scripts.{IsOfScript, lines_of}
use Rattle.blsm_model.specs.declared.history.Entry.{Entry}
use Rattle.blsm_model.specs.declared.history.Line.{Line}
use Rattle.disk_trait.specs.Disk.{DiskState}
use Rattle.seat_book.specs.Seats.{turns_in}
use Rattle.seat_book.specs.State.{work_in}
use Rattle.turn_lock.specs.Callers.{Held, Lock}
use Rattle.turn_lock.specs.Tallies.{In, IsOf, Spares}
use Rattle.turn_lock.specs.Views.{counted_up, size}
use Rattle.tree_machine.specs.Machine.{seats, turn_more}
use Rattle.tree_core.specs.Calls.{CameSince, Leaves}
use Rattle.tree_core.specs.Core.{CoreState, IsCore}
use Rattle.tree_core.specs.Notes.{HasLeft, OwesNothing}
use Rattle.tree_session.specs.Lines.{HasRoomFor, Rests}
use Rattle.tree_shared.specs.Seats.{WentOn, KnowsOf, HasHelped, IsGone, facts_of}

-- ---- one job

-- A caller did its lines, in order, each once.
pub record RanLines {D : Type 0} (state : D → DiskState) (lines : List Line) (c d : Held (CoreState D)) : Type 0 where
  pub entries : List Entry
  pub went : WentOn state c entries d
  pub ops : map (λ (e : Entry). e.op) entries ≡ lines_of c.number lines

-- a worker's turns after so many more
abbrev pub turns_after : ℕ → ℕ → ℕ
turns_after zero before = before
turns_after (suc took) before = turn_more (turns_after took before)

-- A worker took so many turns, or one at least and saw the value closed or stopped, and a quantum in each at most.
pub record Helped {D : Type 0} (state : D → DiskState) (turns : ℕ) (c d : Held (CoreState D)) : Type 0 where
  pub went : WentOn state c [] d
  pub counted : (before taken : ℕ) → KnowsOf (HasHelped before taken) c
      → (took : ℕ) × (took ≤ turns) × KnowsOf (HasHelped (turns_after took before) (taken + took)) d × ((took ≡ turns) ⊎ ((0 < took) × (d.me.0.over ≡ true)))

-- ---- all jobs

-- the core as the lock takes it: nothing was asked of it, and each caller has room for its lines
pub record IsFresh (lines : List Line) {D : Type 0} (start : CoreState D) : Type 0 where
  pub none : start.held.book.book.entries ≡ []
  pub runs : start.held.book.stopped ≡ None
  pub rests : Rests start.held
  pub helped : (seat : ℕ) → callers ≤ seat → seat < seats → slice_index start.held.book.seats.turns (seat - callers) ≡ 0
  pub took_none : (seat : ℕ) → slice_index start.held.book.seats.quanta seat ≡ 0
  pub room : HasRoomFor start.held.book.book.room lines

-- before its job: it has one number, of which nobody did anything, and may give away those from `next` on
pub record IsNew {D : Type 0} (lock : Lock (CoreState D)) (c : Held (CoreState D)) : Type 0 where
  pub of_lock : IsOf lock c
  pub number : c.number < seats
  pub own : c.me.0.own ≡ (c.number, lock.start) ∷ []

-- what the number's job left of it: in this core, and where `halted` says that the core was seen stopped
pub record HasEnded {D : Type 0} (lines : List Line) (turns : ℕ) (halted : Bool) (i : ℕ) (core : CoreState D) : Type 0 where
  pub asked : map (λ (e : Entry). e.op) (entries_of i core.held.book.book.entries) ≡ lines_of i lines
  pub gone : i < callers → IsGone halted ((facts_of core).part i)
  pub helped : callers ≤ i → 0 < turns → 0 < ((facts_of core).part i).turns
  pub few : callers ≤ i → (((facts_of core).part i).turns ≤ turns) × (((facts_of core).part i).quanta ≤ ((facts_of core).part i).turns)

-- A caller left by a call that made this of the core, to which some calls from the start on had led.
pub record LeftAs {D : Type 0} (state : D → DiskState) (start : CoreState D) (i : ℕ) (core : CoreState D) : Type 0 where
  pub before : CoreState D
  pub came : CameSince state start before
  pub leaves : Leaves state i before core

-- a caller has this number, and knows what its job left: by the core that it gave back last, which is that of its leave, where it is one of the callers
abbrev pub TellsEnd : {D : Type 0} → (D → DiskState) → CoreState D → List Line → ℕ → ℕ → Held (CoreState D) → Type 0
TellsEnd {D} state start lines turns i d = (core : CoreState D) × In (i, core) d.me.0.own × HasEnded lines turns d.me.0.halted i core × (i < callers → LeftAs state start i core)

pub record Starts {D : Type 0} (lock : Lock (CoreState D)) (more : ℕ) (c : Held (CoreState D)) : Type 0 where
  pub new : IsNew lock c
  pub last : c.next + more ≤ seats
  pub spare : Spares lock c

pub record Ends {D : Type 0} (state : D → DiskState) (lines : List Line) (turns : ℕ) (lock : Lock (CoreState D)) (more : ℕ) (c d : Held (CoreState D)) : Type 0 where
  pub of_lock : IsOf lock d
  pub sized : size d.me.0 ≡ size c.me.0
  pub own : TellsEnd state lock.start lines turns c.number d
  pub others : (i : ℕ) → c.next ≤ i → i < c.next + more → TellsEnd state lock.start lines turns i d
  -- of the numbers behind these nobody did anything
  pub spare : d.me.0.spare ≡ counted_up (c.next + more) (24 - (c.next + more)) lock.start

-- ---- a run

-- What a caller had seen when it left: the history that its leave found is a front of the one in the end, and has all of the caller's entries. So of what
-- two callers had seen the shorter begins the longer.
pub record SawFront {D : Type 0} (state : D → DiskState) (seat : ℕ) (start end : CoreState D) : Type 0 where
  pub core : CoreState D
  pub left : LeftAs state start seat core
  pub front : IsPrefix core.held.book.book.entries end.held.book.book.entries
  pub own : entries_of seat end.held.book.book.entries ≡ entries_of seat core.held.book.book.entries

-- Each caller did its lines and left, and each worker took a turn, where they take any, no more turns than it may, and no more quanta than turns. No
-- other worker's seat took any. From the start on some calls of the core led here.
pub record RunsAll {D : Type 0} (state : D → DiskState) (lines : List Line) (workers turns : ℕ) (start end : CoreState D) : Type 0 where
  pub of_script : IsOfScript lines end.held.book.book.entries
  pub came : CameSince state start end
  pub keeps : IsCore end.held (state end.disk)
  pub left : (seat : ℕ) → seat < callers → HasLeft seat end.held.book
  pub saw : (seat : ℕ) → seat < callers → SawFront state seat start end
  pub idle : (seat : ℕ) → seat < callers → (work_in seat end.held.book).turns ≡ 0
  pub even : end.held.book.stopped ≡ None → (seat : ℕ) → seat < callers → OwesNothing seat end.held
  pub helped : 0 < turns → (i : ℕ) → i < workers → 0 < slice_index end.held.book.seats.turns i
  pub few : (i : ℕ) → i < workers → (slice_index end.held.book.seats.turns i ≤ turns) × (slice_index end.held.book.seats.quanta (callers + i) ≤ slice_index end.held.book.seats.turns i)
  pub rested : (seat : ℕ) → callers + workers ≤ seat → seat < seats → (turns_in seat end.held.book ≡ 0) × (slice_index end.held.book.seats.quanta seat ≡ 0)
