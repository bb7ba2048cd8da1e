-- What the core's contracts say of one call, and of the calls since a start, one after another.
use Rattle.std.specs.Prelude.{◌≡◌, ◌+◌, ◌/◌, ◌≤◌, ℕ, List, [], ◌∷◌, Option, None, Some, IsTrue, false, true, IsSome}
use Rattle.blsm_model.specs.Facts.{Follows}
use Rattle.blsm_model.specs.Geometry.{file_length}
use Rattle.blsm_model.specs.Histories.{is_met}
use Rattle.blsm_model.specs.declared.history.Reply.{Reply}
use Rattle.blsm_model.specs.declared.key.Key.{Key}
use Rattle.blsm_model.specs.declared.op.Op.{Op}
use Rattle.blsm_model.specs.declared.op.Op.TheVariants as op
use Rattle.blsm_model.specs.declared.row.Value.{Value}
use Rattle.disk_trait.specs.Disk.{DiskState}
use Rattle.disk_trait.specs.Effects.{Affects}
use Rattle.disk_trait.specs.Reads.{OnlyReads}
use Rattle.pacing.specs.Pace.{Pace}
use Rattle.scan_view.specs.Holds.{hold_of, pages_behind}
use Rattle.scan_view.specs.Pins.{beside_pins}
use Rattle.seat_book.specs.State.{ended_in, left_in, noted_in, work_in}
use Rattle.tree_machine.specs.Lists.{value_in}
use Rattle.tree_machine.specs.Machine.{Machine, Turned}
use Rattle.tree_machine.specs.Steps.{Answer, Left, Replied, Turn, work_reply}
use Rattle.tree_machine.specs.declared.step.Kind.{Kind}
use Rattle.tree_machine.specs.declared.step.Kind.TheVariants as kind
use Rattle.tree_machine.specs.declared.step.Step.{Step}
use Rattle.tree_runs.specs.Lookups.{HidesOlder}
use Rattle.tree_runs.specs.Runs.{hold_share}
use Rattle.core_moves.specs.Moves.{with_book}
use Rattle.tree_core.specs.Answers.{answer_to_pay, newest_in, reply_to_drop, reply_to_get, reply_to_hold, reply_to_next, reply_to_write}
use Rattle.tree_core.specs.Causes.{
  AdmitsBecause,
  CallsAtMost,
  CallsNone,
  CountsFilters,
  CountsFirst,
  DropsBecause,
  FindsBecause,
  HasBegun,
  HasLooked,
  HoldsBecause,
  IsFull,
  LooksNone,
  MetBecause,
  PassesPages,
  PaysBecause,
  PaysNone,
  ScansBecause,
  ScansNone,
  TurnsBecause,
  TurnsNone,
  calls_to_admit,
  pages_first,
  IsLookOn,
}
use Rattle.core_pace.specs.Turns.{move_in}
use Rattle.tree_core.specs.Clock.{EndsAdmitted, EndsMet, LeavesDisk}
use Rattle.tree_core.specs.Core.{CoreState, HoldsPace, facts_of_held}
use Rattle.tree_core.specs.Holds.{KeepsHolds, LeavesOthers, StandsWhole}
use Rattle.tree_core.specs.Notes.{CountsPayment, CountsTurn, HasLeft, HelpsOnce, Lessens, NotesNone, NotesOne, OwesNothing, Settles, CountsCommits, rotations}
use Rattle.tree_core.specs.Standing.{AnyRows, StandsFor}
use Rattle.tree_core.specs.Steps.{IsStep, IsWholeStep, MovesPace, StandsSince, may_in}
use Rattle.tree_core.specs.Ruling.{Ruling, ruled_by}
use Rattle.tree_core.specs.declared.answers.Admission.{Admission}
use Rattle.tree_core.specs.declared.answers.Holding.{Holding}
use Rattle.tree_core.specs.declared.answers.Lookup.{Lookup}
use Rattle.tree_core.specs.declared.answers.Payment.{Payment}
use Rattle.tree_core.specs.declared.answers.Release.{Release}
use Rattle.tree_core.specs.Scanned.{Scanned}

-- What each call says: it might be made, it moves the pace by its answer, counts its commits, follows from what stood, what lasts goes on lasting, and begins anew there.
-- On an honest disk it is the machine's own step.
pub record GoesOnAs {D : Type 0} (state : D → DiskState) (seat : ℕ) (k : Kind) (answer : Answer) (old new : CoreState D) : Type 0 where
  pub may : IsTrue (may_in old.held seat k)
  pub numbers : (pace : Pace) → HoldsPace old.held pace (state old.disk) → MovesPace seat k answer new.held (state new.disk) pace
  pub commits : CountsCommits (rotations answer k old.held) old.held new.held
  pub steps : (opening : List (Key × Value)) (m : Machine) → IsTrue (state old.disk).is_honest → StandsWhole state opening old m → IsWholeStep state opening seat k answer old new m
  pub follows : Follows seat (facts_of_held old.held) (facts_of_held new.held)
  pub lasts : (start : CoreState D) → StandsSince state start old → StandsSince state start new
  pub begins : StandsSince state new new

-- And one that has nothing to do with holds: it leaves them and what they pin. On an honest disk it is the machine's step whatever rows they have to give,
-- and while it runs these stay.
pub record BesideHolds {D : Type 0} (state : D → DiskState) (seat : ℕ) (k : Kind) (answer : Answer) (old new : CoreState D) : Type 0 where
  pub holds : KeepsHolds old new
  pub step : (opening : List (Key × Value)) (m : Machine) → IsTrue (state old.disk).is_honest → StandsFor AnyRows opening old.held m (state old.disk)
      → IsStep (λ rows. rows ≡ m.holds) opening seat k answer new.held (state old.disk) (state new.disk) m

pub record Admits {D : Type 0} (state : D → DiskState) (seat : ℕ) (op : Op) (answer : Ruling) (old new : CoreState D) : Type 0 where
  pub goes : GoesOnAs state seat (kind.Admit op) (Replied (reply_to_write answer)) old new
  pub beside : BesideHolds state seat (kind.Admit op) (Replied (reply_to_write answer)) old new
  pub cause : AdmitsBecause answer seat op old.held new.held (state old.disk) (state new.disk)
  pub begun : HasBegun answer old.held new.held
  pub notes : NotesOne seat op (reply_to_write answer) old.held.book new.held.book
  pub effect : Affects (beside_pins old.held.runs.sizes old.held.runs.space.pins) (file_length old.held.runs.sizes)
      (pages_first op + calls_to_admit old.held) (state old.disk) (state new.disk)
  -- its lookup makes as many calls at most as filters say yes, all of them reads, and none where the memory table's record hides what is older
  pub asks : (n : ℕ) → CountsFirst op old.held n → CallsAtMost state answer old.held n old.disk new.disk
  pub ends : EndsAdmitted answer op old.held (state old.disk) (state new.disk)
  pub untouched : CallsNone op answer → new.disk ≡ old.disk

-- A write that looked first: it is refused by what it found, with all that its call says, or its condition holds, and the core is as before but for
-- a disk that was read.
abbrev pub LooksFirst : {D : Type 0} → (D → DiskState) → ℕ → Op → Option Admission → CoreState D → CoreState D → Type 0
LooksFirst state seat op (Some answer) old new = (found : Option Value) × Admits state seat op (ruled_by answer found) old new
LooksFirst state seat op None old new =
    (new ≡ record old { disk = new.disk }) × ((state new.disk).faults ≡ (state old.disk).faults) × HasLooked op old.held (state old.disk)
    × ((n : ℕ) → CountsFirst op old.held n → OnlyReads (file_length old.held.runs.sizes) n (state old.disk) (state new.disk))
    × ((opening : List (Key × Value)) (m : Machine) → IsTrue (state new.disk).is_honest → StandsFor AnyRows opening new.held m (state new.disk) →
    is_met op (value_in m.lists) ≡ true)

-- And what is done once its condition holds.
pub record AdmitsMet {D : Type 0} (state : D → DiskState) (seat : ℕ) (op : Op) (answer : Admission) (old new : CoreState D) : Type 0 where
  pub goes : GoesOnAs state seat (kind.Admit op) (Replied (reply_to_write (ruled_by answer None))) old new
  pub beside : BesideHolds state seat (kind.Admit op) (Replied (reply_to_write (ruled_by answer None))) old new
  pub cause : MetBecause answer seat op old.held new.held (state old.disk) (state new.disk)
  pub begun : HasBegun (ruled_by answer None) old.held new.held
  pub notes : NotesOne seat op (reply_to_write (ruled_by answer None)) old.held.book new.held.book
  pub effect : Affects (beside_pins old.held.runs.sizes old.held.runs.space.pins) (file_length old.held.runs.sizes) (calls_to_admit old.held) (state old.disk) (state new.disk)
  pub ends : EndsMet answer old.held (state old.disk) (state new.disk)
  pub untouched : IsFull answer → new.disk ≡ old.disk

pub record Pays {D : Type 0} (state : D → DiskState) (seat : ℕ) (answer : Payment) (old new : CoreState D) : Type 0 where
  pub goes : GoesOnAs state seat kind.Pay (answer_to_pay answer) old new
  pub beside : BesideHolds state seat kind.Pay (answer_to_pay answer) old new
  pub cause : PaysBecause answer seat old.held new.held (state old.disk) (state new.disk)
  pub counts : CountsPayment answer seat old.held.book new.held.book
  pub settles : Settles answer seat new.held
  pub lessens : Lessens answer seat old.held new.held
  pub effect : Affects (beside_pins old.held.runs.sizes old.held.runs.space.pins) (file_length old.held.runs.sizes) (old.held.runs.sizes.quantum / 4 + 3) (state old.disk) (state new.disk)
  pub untouched : PaysNone answer → new.disk ≡ old.disk

-- What each reply is due to: a call's answer, with its cause. A work tells of its last turn.
abbrev pub RepliesBecause : {D : Type 0} → (D → DiskState) → ℕ → Op → Reply → CoreState D → CoreState D → Type 0
RepliesBecause state seat (op.Get key) reply old new = (answer : Lookup) × (reply ≡ reply_to_get answer) × FindsBecause answer key old.held (state old.disk) (state new.disk)
RepliesBecause state seat (op.Hold low high) reply old new = (answer : Holding) × (reply ≡ reply_to_hold answer) × HoldsBecause answer seat low high old new
RepliesBecause state seat (op.Next n) reply old new = (answer : Scanned) × (reply ≡ reply_to_next answer) × ScansBecause answer seat n old new (state old.disk) (state new.disk)
RepliesBecause state seat op.Release reply old new = (answer : Release) × (reply ≡ reply_to_drop answer) × DropsBecause answer seat old new
RepliesBecause state seat (op.Work n) reply old new = reply ≡ work_reply (work_in seat old.held.book) old.held.book.stopped
RepliesBecause state seat write reply old new = (answer : Ruling) × (reply ≡ reply_to_write answer) × AdmitsBecause answer seat write old.held
    new.held (state old.disk) (state new.disk)

pub record Gets {D : Type 0} (state : D → DiskState) (seat : ℕ) (key : Key) (answer : Lookup) (old new : CoreState D) : Type 0 where
  pub goes : GoesOnAs state seat (kind.Look (op.Get key)) (Replied (reply_to_get answer)) old new
  pub beside : BesideHolds state seat (kind.Look (op.Get key)) (Replied (reply_to_get answer)) old new
  pub cause : FindsBecause answer key old.held (state old.disk) (state new.disk)
  pub held : new.held ≡ with_book (noted_in seat (op.Get key) (reply_to_get answer) old.held.book) old.held
  -- as many calls at most as filters say yes, so three, and none where each says no
  pub reads : (n : ℕ) → CountsFilters key old.held n → OnlyReads (file_length old.held.runs.sizes) n (state old.disk) (state new.disk)
  pub hidden : HidesOlder (newest_in key old.held) → new.disk ≡ old.disk
  pub untouched : LooksNone answer → new.disk ≡ old.disk

-- the call that answered a command that only looks
abbrev pub AnswersLook : {D : Type 0} → (D → DiskState) → ℕ → Op → Reply → CoreState D → CoreState D → Type 0
AnswersLook state seat (op.Get key) reply old new = (answer : Lookup) × (reply ≡ reply_to_get answer) × Gets state seat key answer old new
AnswersLook state seat _ reply old new = ⊥

-- What each such command says, whatever it asks.
pub record Looks {D : Type 0} (state : D → DiskState) (seat : ℕ) (op : Op) (reply : Reply) (old new : CoreState D) : Type 0 where
  pub goes : GoesOnAs state seat (kind.Look op) (Replied reply) old new
  pub beside : BesideHolds state seat (kind.Look op) (Replied reply) old new
  pub call : AnswersLook state seat op reply old new
  pub cause : RepliesBecause state seat op reply old new
  pub told : IsLookOn reply old.held (state old.disk) (state new.disk)
  pub held : new.held ≡ with_book (noted_in seat op reply old.held.book) old.held
  pub reads : OnlyReads (file_length old.held.runs.sizes) 3 (state old.disk) (state new.disk)
  pub rests : IsSome old.held.book.stopped → new.disk ≡ old.disk

pub record HoldsRange {D : Type 0} (state : D → DiskState) (seat : ℕ) (low high : Key) (answer : Holding) (old new : CoreState D) : Type 0 where
  pub goes : GoesOnAs state seat (kind.Hold low high) (Replied (reply_to_hold answer)) old new
  pub cause : HoldsBecause answer seat low high old new
  pub others : LeavesOthers seat old new
  pub book : new.held.book ≡ noted_in seat (op.Hold low high) (reply_to_hold answer) old.held.book
  pub untouched : new.disk ≡ old.disk

pub record ReadsOn {D : Type 0} (state : D → DiskState) (seat n : ℕ) (answer : Scanned) (old new : CoreState D) : Type 0 where
  pub goes : GoesOnAs state seat (kind.Next n) (Replied (reply_to_next answer)) old new
  pub cause : ScansBecause answer seat n old new (state old.disk) (state new.disk)
  pub book : new.held.book ≡ noted_in seat (op.Next n) (reply_to_next answer) old.held.book
  pub others : LeavesOthers seat old new
  pub runs : new.held.runs ≡ old.held.runs
  pub few : pages_behind (hold_of seat old.holds) ≤ hold_share old.held.runs.sizes
  pub reads : OnlyReads (file_length old.held.runs.sizes) (pages_behind (hold_of seat old.holds)) (state old.disk) (state new.disk)
  pub passes : PassesPages answer (hold_of seat old.holds) (hold_of seat new.holds) (state old.disk) (state new.disk)
  pub untouched : ScansNone answer → new.disk ≡ old.disk

pub record LetsGo {D : Type 0} (state : D → DiskState) (seat : ℕ) (answer : Release) (old new : CoreState D) : Type 0 where
  pub goes : GoesOnAs state seat kind.Release (Replied (reply_to_drop answer)) old new
  pub cause : DropsBecause answer seat old new
  pub others : LeavesOthers seat old new
  pub book : new.held.book ≡ noted_in seat op.Release (reply_to_drop answer) old.held.book
  pub untouched : new.disk ≡ old.disk

pub record TurnsOnce {D : Type 0} (state : D → DiskState) (seat : ℕ) (answer : Turned) (old new : CoreState D) : Type 0 where
  pub goes : GoesOnAs state seat kind.WorkTurn (Turn answer) old new
  pub beside : BesideHolds state seat kind.WorkTurn (Turn answer) old new
  pub cause : TurnsBecause answer false seat old.held new.held (state old.disk) (state new.disk)
  pub counts : CountsTurn seat answer old.held new.held
  pub even : new.held.book.stopped ≡ None → OwesNothing seat new.held
  pub effect : Affects (beside_pins old.held.runs.sizes old.held.runs.space.pins) (file_length old.held.runs.sizes) (old.held.runs.sizes.quantum / 4 + 9) (state old.disk) (state new.disk)
  pub untouched : TurnsNone answer → new.disk ≡ old.disk
  pub in_memory : LeavesDisk (move_in false old.held) old.disk new.disk

pub record EndsWork {D : Type 0} (state : D → DiskState) (seat n : ℕ) (reply : Reply) (old new : CoreState D) : Type 0 where
  pub goes : GoesOnAs state seat (kind.WorkEnd n) (Replied reply) old new
  pub beside : BesideHolds state seat (kind.WorkEnd n) (Replied reply) old new
  pub reply_is : reply ≡ work_reply (work_in seat old.held.book) old.held.book.stopped
  pub held : new.held ≡ with_book (ended_in seat n old.held.book) old.held
  pub untouched : new.disk ≡ old.disk

pub record Helps {D : Type 0} (state : D → DiskState) (seat : ℕ) (answer : Turned) (old new : CoreState D) : Type 0 where
  pub goes : GoesOnAs state seat kind.WorkerTurn (Turn answer) old new
  pub beside : BesideHolds state seat kind.WorkerTurn (Turn answer) old new
  pub cause : TurnsBecause answer true seat old.held new.held (state old.disk) (state new.disk)
  pub notes : NotesNone old.held.book new.held.book
  pub helps : HelpsOnce seat old.held.book new.held.book
  pub still : TurnsNone answer → new.held.book.stopped ≡ old.held.book.stopped
  pub effect : Affects (beside_pins old.held.runs.sizes old.held.runs.space.pins) (file_length old.held.runs.sizes) (old.held.runs.sizes.quantum / 4 + 9) (state old.disk) (state new.disk)
  pub untouched : TurnsNone answer → new.disk ≡ old.disk
  pub in_memory : LeavesDisk (move_in true old.held) old.disk new.disk

pub record Leaves {D : Type 0} (state : D → DiskState) (seat : ℕ) (old new : CoreState D) : Type 0 where
  pub goes : GoesOnAs state seat kind.Leave Left old new
  pub beside : BesideHolds state seat kind.Leave Left old new
  pub held : new.held ≡ with_book (left_in seat old.held.book) old.held
  pub left : HasLeft seat new.held.book
  pub untouched : new.disk ≡ old.disk

-- one call by a seat, whatever it answered
abbrev pub IsCall : {D : Type 0} → (D → DiskState) → ℕ → Kind → CoreState D → CoreState D → Type 0
IsCall state seat (kind.Admit op) old new = (answer : Ruling) × Admits state seat op answer old new
IsCall state seat kind.Pay old new = (answer : Payment) × Pays state seat answer old new
IsCall state seat (kind.Look op) old new = (reply : Reply) × Looks state seat op reply old new
IsCall state seat (kind.Hold low high) old new = (answer : Holding) × HoldsRange state seat low high answer old new
IsCall state seat (kind.Next n) old new = (answer : Scanned) × ReadsOn state seat n answer old new
IsCall state seat kind.Release old new = (answer : Release) × LetsGo state seat answer old new
IsCall state seat kind.WorkTurn old new = (answer : Turned) × TurnsOnce state seat answer old new
IsCall state seat (kind.WorkEnd n) old new = (reply : Reply) × EndsWork state seat n reply old new
IsCall state seat kind.WorkerTurn old new = (answer : Turned) × Helps state seat answer old new
IsCall state seat kind.Leave old new = Leaves state seat old new

-- one call by this seat, of whatever kind, made the one of the other
abbrev pub MadeBy : {D : Type 0} → (D → DiskState) → ℕ → CoreState D → CoreState D → Type 0
MadeBy state seat old new = (k : Kind) × IsCall state seat k old new

-- these calls, one after another, with the core after each
abbrev pub AreCalls : {D : Type 0} → (D → DiskState) → List (Step × CoreState D) → CoreState D → CoreState D → Type 0
AreCalls state [] old new = new ≡ old
AreCalls state (one ∷ more) old new = IsCall state one.0.seat one.0.kind old one.1 × AreCalls state more one.1 new

-- From the start on some calls led here, and what lasts has lasted.
pub record CameSince {D : Type 0} (state : D → DiskState) (start now : CoreState D) : Type 0 where
  pub calls : List (Step × CoreState D)
  pub are : AreCalls state calls start now
  pub since : StandsSince state start now
