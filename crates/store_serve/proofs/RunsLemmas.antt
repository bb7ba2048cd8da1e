-- A session's lines and its leaves as a run of a script with nobody else at work.
use Rattle.std.proofs.lemmas.Bool.{cases_eq}
use Rattle.std.proofs.lemmas.Bool.Decides.{nat_tests}
use Rattle.std.proofs.lemmas.Grind.{common_steps}
use Rattle.std.proofs.Common.{◌≡◌, ◌∙◌, ℕ, ◌+◌, ◌-◌, ◌≤◌, ◌<◌, ◌++◌, Bool, List, [], ◌∷◌, true, false, inl, inr, refl, sym, ap, subst, slice_index, slice_index_or, slice_set, append-nil, arith}
use Rattle.blsm_model.proofs.ScriptLemmas.{of_script}
use Rattle.blsm_model.specs.Book.{Book}
use mathlib.Core.List.{IsPrefix}
use Rattle.blsm_model.specs.Facts.{entries_of}
use Rattle.blsm_model.specs.Format.{callers}
use Rattle.blsm_model.specs.Scripts.{asked, asked_in}
use Rattle.blsm_model.specs.declared.history.Entry.{Entry}
use Rattle.blsm_model.specs.declared.history.Line.{Line}
use Rattle.core_chain.proofs.LinkLemmas.{chain_keeps, link_keeps}
use Rattle.core_moves.specs.declared.held.Held.{Held}
use Rattle.disk_trait.specs.Disk.{DiskState}
use Rattle.gear_sched.specs.Gears.{GearState, first_debt, second_debt}
use Rattle.seat_book.specs.Seats.{turns_in}
use Rattle.seat_book.specs.State.{BookState}
use Rattle.tree_core.specs.Calls.{Leaves}
use Rattle.tree_core.specs.Core.{CoreState, IsCore}
use Rattle.tree_core.specs.Notes.{HasLeft}
use Rattle.tree_core.specs.Steps.{StandsSince}
use Rattle.tree_core.proofs.CallLemmas.{calls_then}
use Rattle.tree_machine.specs.Machine.{WorkSoFar, no_work}
use Rattle.tree_machine.specs.declared.step.Kind.TheVariants as kind
use Rattle.tree_session.specs.Session.{Runs}
use Rattle.tree_session.proofs.MadeLemmas.{made_by, made_none, made_then}
use Rattle.tree_shared.specs.Runs.{IsFresh, RunsAll, SawFront}
use Rattle.blsm_model.specs.declared.room.Room.{Room}
use Rattle.blsm_model.specs.declared.op.Op.{Op}
use Rattle.core_moves.specs.Held.{charge_in}
use Rattle.disk_trait.specs.Moments.{IsTimed}
use Rattle.recover_open.specs.Opening.{no_entries}
use Rattle.tree_session.specs.Lines.{HasRoomFor}
use Rattle.store_run.specs.Run.{Run, run_at}
use Rattle.store_run.proofs.RanLemmas.{Opened, RanOver, ran_over}
use Rattle.store_run.proofs.RunLemmas.{is_fresh}
use Rattle.store_serve.specs.Session.{DidLines, LeftAmid, LeftBy}
use Rattle.store_serve.specs.Taken.{TakesLines, lines_in}
use Rattle.store_serve.specs.Told.{IsTold}
use Rattle.store_serve.specs.declared.closing.Closing.{Closing}
use Rattle.text_io.specs.Text.{SinkState, SourceState}

-- ---- leaving

pub left_none : {D : Type 0} (state : D → DiskState) (old : CoreState D) → LeftBy state 0 old old
left_none state old = record {
  made = made_none state old;
  lasts = λ start since. since;
  left = λ seat below. absurd (omega arith);
  each = λ seat below. absurd (omega arith);
  book = refl;
  work = refl;
  turns = refl;
  quanta = refl;
  stopped = refl;
  gears = refl;
  disk = refl;
}

left_still : (l : List Bool) (at seat : ℕ) → slice_index_or l seat false ≡ true → slice_index_or (slice_set l at true) seat false ≡ true
left_still l at seat left = grind (arith, common_steps, nat_tests)

-- who had left before has left still, and so has the next
left_each : {D : Type 0} (state : D → DiskState) (count seat : ℕ) (mid new : CoreState D) → seat < count + 1 → ((other : ℕ) → other < count → HasLeft other mid.held.book) → Leaves state count mid new → HasLeft seat new.held.book
left_each {D} state count seat mid new below before one = elim (cases_eq seat count) [
  | inl same ↦ subst (λ (n : ℕ). HasLeft n new.held.book) (sym same) one.left
  | inr apart ↦ ap (λ (h : Held). slice_index_or h.book.seats.left seat false) one.held ∙ left_still mid.held.book.seats.left count seat (before seat (omega arith))
]

-- each by a call of its own
left_amid : {D : Type 0} (state : D → DiskState) (count seat : ℕ) (old mid new : CoreState D) → seat < count + 1 → LeftBy state count old mid → Leaves state count mid new → LeftAmid state seat old new
left_amid {D} state count seat old mid new below before one = elim (cases_eq seat count) [
  | inl same ↦ subst (λ (n : ℕ). LeftAmid state n old new) (sym same) (record { before = mid; core = new; made = before.made; lasts = before.lasts; leaves = one; book = refl })
  | inr apart ↦ still_amid (before.each seat (omega arith))
]
  where
    still_amid : LeftAmid state seat old mid → LeftAmid state seat old new
    still_amid was = record {
      before = was.before;
      core = was.core;
      made = was.made;
      lasts = was.lasts;
      leaves = was.leaves;
      book = ap (λ (h : Held). h.book.book) one.held ∙ was.book;
    }

pub left_more : {D : Type 0} (state : D → DiskState) (count : ℕ) (old mid new : CoreState D) → LeftBy state count old mid → Leaves state count mid new → LeftBy state (count + 1) old new
left_more {D} state count old mid new before one = record {
  made = made_then state old mid new before.made (made_by state count kind.Leave mid new one refl);
  lasts = λ start since. one.goes.lasts start (before.lasts start since);
  left = λ seat below. left_each state count seat mid new below before.left one;
  each = λ seat below. left_amid state count seat old mid new below before one;
  book = ap (λ (h : Held). h.book.book) one.held ∙ before.book;
  work = ap (λ (h : Held). h.book.seats.work) one.held ∙ before.work;
  turns = ap (λ (h : Held). h.book.seats.turns) one.held ∙ before.turns;
  quanta = ap (λ (h : Held). h.book.seats.quanta) one.held ∙ before.quanta;
  stopped = ap (λ (h : Held). h.book.stopped) one.held ∙ before.stopped;
  gears = ap (λ (h : Held). h.gears) one.held ∙ before.gears;
  disk = one.untouched ∙ before.disk;
}

-- ---- the run

-- a worker's turns go by its seat's list alone
worker_turns : (seat : ℕ) (b : BookState) → callers ≤ seat → turns_in seat b ≡ slice_index b.seats.turns (seat - callers)
worker_turns seat b above = grind (arith, common_steps, nat_tests)

-- what a caller had seen when it left is the whole history
saw_all : {D : Type 0} (state : D → DiskState) (lines : List Line) (old mid new : CoreState D) → StandsSince state old old → (runs : Runs state lines old mid) → (seat : ℕ) → LeftAmid state seat mid new
    → SawFront state seat old new
saw_all {D} state lines old mid new begins runs seat was = record {
  core = was.core;
  left = record {
    before = was.before;
    came = record {
      calls = runs.made.0 ++ was.made.0;
      are = calls_then state runs.made.0 was.made.0 old mid was.before runs.made.1 was.made.1;
      since = was.lasts old (runs.proceeds.lasts old begins);
    };
    leaves = was.leaves;
  };
  front = subst (λ (b : Book). IsPrefix was.core.held.book.book.entries b.entries) (sym was.book) ([], append-nil was.core.held.book.book.entries);
  own = ap (λ (b : Book). entries_of seat b.entries) was.book;
}

-- the calls of the lines, and then the leaves
pub runs_all : {D : Type 0} (state : D → DiskState) (lines : List Line) (old mid new : CoreState D) → IsFresh [] old → StandsSince state old old →
    IsCore old.held (state old.disk) → Runs state lines old mid → LeftBy state callers mid new
    → RunsAll state lines 0 0 old new
runs_all {D} state lines old mid new fresh begins keeps runs leaves = record {
  of_script = of_script lines new.held.book.book.entries asked_end;
  came = record {
    calls = runs.made.0 ++ leaves.made.0;
    are = calls_then state runs.made.0 leaves.made.0 old mid new runs.made.1 leaves.made.1;
    since = leaves.lasts old (runs.proceeds.lasts old begins);
  };
  keeps = chain_keeps state (λ (core : CoreState D). IsCore core.held (state core.disk)) (link_keeps state) (runs.made.0 ++ leaves.made.0) old new
      (calls_then state runs.made.0 leaves.made.0 old mid new runs.made.1 leaves.made.1) keeps;
  left = leaves.left;
  saw = λ seat below. saw_all state lines old mid new begins runs seat (leaves.each seat below);
  idle = λ seat below. ap (λ (ws : List WorkSoFar). (slice_index_or ws seat no_work).turns) leaves.work ∙ ap (λ (w : WorkSoFar). w.turns) (runs.rests.idle seat);
  even = λ none seat below. subst (λ (g : GearState). first_debt g seat + second_debt g seat ≡ 0) (sym leaves.gears) (runs.rests.even (sym leaves.stopped ∙ none) seat);
  helped = λ some. absurd (omega arith);
  few = λ i below. absurd (omega arith);
  rested = λ seat above below. (
    worker_turns seat new.held.book (omega arith) ∙ ap (λ (ns : List ℕ). slice_index ns (seat - callers)) leaves.turns ∙ sym (worker_turns seat mid.held.book (omega arith))
        ∙ runs.proceeds.alone.turns seat (omega arith) ∙ worker_turns seat old.held.book (omega arith) ∙ fresh.helped seat (omega arith) below,
    ap (λ (ns : List ℕ). slice_index ns seat) leaves.quanta ∙ runs.proceeds.alone.quanta seat (omega arith) ∙ fresh.took_none seat,
  );
}
  where
    asked_end : asked_in new.held.book.book.entries ≡ asked lines
    asked_end = ap (λ (b : Book). asked_in b.entries) leaves.book ∙ ap asked_in (runs.entries ∙ ap (λ (es : List Entry). es ++ runs.added) fresh.none) ∙ runs.asked_for

-- ---- a session, from the opening on

no_lines : (room : Room) → HasRoomFor room []
no_lines room = record { entries = λ seat below. omega arith; rows = λ seat below. omega arith }

asked_of : (es : List Entry) → asked_in es ≡ asked (lines_in es)
asked_of [] = refl
asked_of (e ∷ es) = ap (λ (rest : List (ℕ × Op)). (e.seat, e.op) ∷ rest) (asked_of es)

-- What a session did of a store that was opened, and what is told of it.
pub record ServedOver {D : Type 0} (state : D → DiskState) (room : Room) (ships : ℕ) (closing : Closing) (run : Run) (first last : D)
    (s t : SourceState) (k h : SinkState) : Type 0 where
  pub over : RanOver state room (lines_in run.entries) 0 0 run first last
  pub in_order : asked_in run.entries ≡ asked (lines_in run.entries)
  pub takes : TakesLines run.entries closing room s t
  pub told : IsTold closing ships run.charge run.entries run.quanta k h

module _ {D : Type 0} (state : D → DiskState) (timed : (d : D) → IsTimed (state d)) (room : Room) (ships : ℕ) (closing : Closing) (first : D)
    (old mid new : CoreState D) (s t : SourceState) (k h : SinkState)
    (o : Opened state room first old) (did : DidLines state ships closing old mid s t k h) (leaves : LeftBy state callers mid new) where
  is_run : RunsAll state (lines_in new.held.book.book.entries) 0 0 old new
  is_run = subst (λ (b : Book). RunsAll state (lines_in b.entries) 0 0 old new) (sym leaves.book)
      (runs_all state (lines_in mid.held.book.book.entries) old mid new
      (is_fresh [] (no_entries room) (state old.disk).faults old o.opened o.rests (no_lines room)) o.begins o.keeps did.runs leaves)

  takes_all : TakesLines new.held.book.book.entries closing room s t
  takes_all = subst (λ (b : Book). TakesLines b.entries closing room s t) (sym leaves.book)
      (subst (λ (r : Room). TakesLines mid.held.book.book.entries closing r s t) (ap (λ (b : BookState). b.book.room) o.opened.book) did.takes)

  told_all : IsTold closing ships (charge_in old.held) new.held.book.book.entries new.held.book.book.quanta k h
  told_all = subst (λ (b : Book). IsTold closing ships (charge_in old.held) b.entries b.quanta k h) (sym leaves.book) did.told

  at_end : (last : D) → last ≡ new.disk → ServedOver state room ships closing (run_at (charge_in old.held) new.held) first last s t k h
  at_end last same = record {
    over = ran_over state timed room (lines_in new.held.book.book.entries) 0 0 first old new o is_run (run_at (charge_in old.held) new.held) refl last same;
    in_order = asked_of new.held.book.book.entries;
    takes = takes_all;
    told = told_all;
  }

  pub served_over : (run : Run) → run ≡ run_at (charge_in old.held) new.held → (last : D) → last ≡ new.disk
      → ServedOver state room ships closing run first last s t k h
  served_over run is last same = subst (λ (r : Run). ServedOver state room ships closing r first last s t k h) (sym is) (at_end last same)
