-- A session over the core of a store, on every disk: the lines that were done, and what was taken and told of them.
use Rattle.std.specs.Prelude.{◌≡◌, ◌+◌, ◌<◌, ◌≤◌, ℕ, List, Result, Ok, Err, length, slice_index}
use Rattle.refusal.specs.declared.Failed.{Failed}
use Rattle.blsm_model.specs.Book.{Book, entry_at}
use Rattle.blsm_model.specs.Format.{most_entries}
use Rattle.blsm_model.specs.declared.history.Line.{Line}
use Rattle.core_moves.specs.Held.{charge_in}
use Rattle.disk_trait.specs.Disk.{DiskState}
use Rattle.tree_core.specs.Calls.{Leaves}
use Rattle.tree_core.specs.Core.{CoreState}
use Rattle.tree_core.specs.Notes.{HasLeft}
use Rattle.tree_core.specs.Steps.{StandsSince}
use Rattle.tree_session.specs.Session.{IsMade, Performs, Runs}
use Rattle.store_serve.specs.Room.{HasRoomForLine}
use Rattle.store_serve.specs.Taken.{ReadsNext, StopsAt, TakesLines, lines_in}
use Rattle.store_serve.specs.Told.{IsTold, ship_behind, told_entry}
use Rattle.store_serve.specs.declared.closing.Closing.{Closing}
use Rattle.store_serve.specs.declared.closing.Closing.TheVariants.{SinkFault}
use Rattle.text_io.specs.Lines.{LinesState}
use Rattle.text_io.specs.Text.{SinkState, SourceState, Writes}

-- the line of the entry that was noted last, and its ship if it has one
abbrev pub last_text : ℕ → Book → Book → List ℕ
last_text ship old new = told_entry ship (length old.entries + 1) (entry_at new (length old.entries)) (slice_index new.quanta (length old.entries))

-- the next line was read, whose caller had room for it, and done
pub record DoesNext {D : Type 0} (state : D → DiskState) (old new : CoreState D) (l m : LinesState) (s t : SourceState) : Type 0 where
  pub line : Line
  pub reads : ReadsNext line l m s t
  pub room : HasRoomForLine old.held.book.book.room line
  pub performs : Performs state line.seat line.op old new
  -- before it there were no more entries than there is place for, and each had its quanta
  pub few : length old.held.book.book.entries ≤ most_entries
  pub places : length old.held.book.book.quanta ≡ length old.held.book.book.entries

-- It was told too, with its ship, and the next ship has the number that was answered; or the sink failed at it; or there was no line that may be
-- done, and nothing was done or told.
abbrev pub DidLine : {D : Type 0} → (D → DiskState) → ℕ → Result ℕ Closing → CoreState D → CoreState D → LinesState → LinesState
    → SourceState → SourceState → SinkState → SinkState → Type 0
DidLine state ship (Ok next) old new l m s t k h = DoesNext state old new l m s t
    × Writes {T = Unit {0}} {E = Failed} (last_text ship old.held.book.book new.held.book.book) (Ok tt) k h
    × (next ≡ ship_behind ship (entry_at new.held.book.book (length old.held.book.book.entries)))
DidLine state ship (Err SinkFault) old new l m s t k h = DoesNext state old new l m s t
    × (failed : Failed) × Writes {T = Unit {0}} {E = Failed} (last_text ship old.held.book.book new.held.book.book) (Err failed) k h
DidLine state ship (Err closing) old new l m s t k h = (new ≡ old) × StopsAt closing old.held.book.book l s t × (h ≡ k)

-- the session's lines were done in order, by a core that nothing was asked of before
pub record DidLines {D : Type 0} (state : D → DiskState) (ships : ℕ) (closing : Closing) (old new : CoreState D)
    (s t : SourceState) (k h : SinkState) : Type 0 where
  pub runs : Runs state (lines_in new.held.book.book.entries) old new
  pub takes : TakesLines new.held.book.book.entries closing old.held.book.book.room s t
  pub told : IsTold closing ships (charge_in old.held) new.held.book.book.entries new.held.book.book.quanta k h

-- A caller left by a call that made this of the core, to which some calls had led. The history is the same in the end.
pub record LeftAmid {D : Type 0} (state : D → DiskState) (seat : ℕ) (old new : CoreState D) : Type 0 where
  pub before : CoreState D
  pub core : CoreState D
  pub made : IsMade state old before
  pub lasts : (start : CoreState D) → StandsSince state start old → StandsSince state start before
  pub leaves : Leaves state seat before core
  pub book : new.held.book.book ≡ core.held.book.book

-- the first callers left, and else nothing changed
pub record LeftBy {D : Type 0} (state : D → DiskState) (count : ℕ) (old new : CoreState D) : Type 0 where
  pub made : IsMade state old new
  pub lasts : (start : CoreState D) → StandsSince state start old → StandsSince state start new
  pub left : (seat : ℕ) → seat < count → HasLeft seat new.held.book
  pub each : (seat : ℕ) → seat < count → LeftAmid state seat old new
  pub book : new.held.book.book ≡ old.held.book.book
  pub work : new.held.book.seats.work ≡ old.held.book.seats.work
  pub turns : new.held.book.seats.turns ≡ old.held.book.seats.turns
  pub quanta : new.held.book.seats.quanta ≡ old.held.book.seats.quanta
  pub stopped : new.held.book.stopped ≡ old.held.book.stopped
  pub gears : new.held.gears ≡ old.held.gears
  pub disk : new.disk ≡ old.disk
