-- What a run leaves to be printed, on every disk.
use Rattle.std.specs.Prelude.{◌≡◌, ◌≤◌, ◌<◌, ◌+◌, ◌-◌, ◌*◌, ℕ, zero, suc, List, [], ◌∷◌, ◌++◌, drop, length, replicate, slice_index, slice_index_or, sum, sum_by, take}
use Rattle.std.proofs.lemmas.Grind.{common_steps}
use Rattle.std.proofs.lemmas.Bool.Decides.{nat_tests}
use Rattle.std.specs.List.{AllByRecursion}
use Rattle.std.proofs.Common.{◌∙◌, refl, ap, sym, subst, arith, get_or-drop, length-drop, suc-mul, zero-le}
use Rattle.std.proofs.lemmas.List.Sums.{sum_by-cons}
use Rattle.blsm_model.specs.Book.{Book}
use Rattle.blsm_model.specs.Format.{callers}
use Rattle.blsm_model.specs.Geometry.{capacity, file_length, high_mark}
use Rattle.blsm_model.specs.Scripts.{IsOfScript, asked, asked_in}
use Rattle.blsm_model.specs.Sizes.{Sizes, IsGeometry}
use Rattle.blsm_model.specs.declared.history.Entry.{Entry}
use Rattle.blsm_model.specs.declared.history.Line.{Line}
use Rattle.blsm_model.specs.declared.history.Totals.{Totals}
use Rattle.blsm_model.specs.declared.room.Room.{Room}
use Rattle.blsm_model.proofs.ScriptLemmas.{of_script}
use Rattle.core_chain.proofs.LinkLemmas.{chain_keeps, link_keeps}
use Rattle.core_chain.specs.Quanta.{ChainHelps, ChainTakesFew, helps_in}
use Rattle.core_chain.specs.Start.{IsUnasked, steps_of}
use Rattle.core_chain.specs.Tells.{ChainTells, calls_of_all}
use Rattle.core_moves.specs.declared.held.Held.{Held}
use Rattle.core_moves.specs.Held.{charge_in}
use Rattle.core_pace.specs.Opening.{IsOpened}
use Rattle.disk_trait.specs.Disk.{DiskState}
use Rattle.recover_open.specs.Opening.{HasLengthOf}
use Rattle.seat_book.specs.State.{BookState, totals_in}
use Rattle.tree_log.specs.Log.{resident_in}
use Rattle.tree_core.specs.Core.{CoreState, IsCore}
use Rattle.tree_core.specs.Steps.{StandsSince}
use Rattle.tree_machine.specs.Machine.{WorkSoFar, no_work, seats}
use Rattle.tree_machine.specs.declared.step.Step.{Step}
use Rattle.tree_machine.proofs.PlayLemmas.{of_replicate}
use Rattle.tree_session.specs.Faults.{NamesStop, Reaches, TellsFaults, faults_told}
use Rattle.tree_session.specs.Lines.{HasRoomFor, Rests}
use Rattle.tree_session.specs.Session.{Runs, TookFew, calls_for}
use Rattle.tree_session.proofs.AloneLemmas.{quanta_alone}
use Rattle.tree_shared.specs.Runs.{IsFresh, RunsAll}
use Rattle.store_run.specs.Run.{CameToEnd, HaveEnded, IsRunOf, Run, run_at}

abbrev pub run_with : ℕ → Book → Totals → ℕ → Run
run_with charge annals totals resident =
    record { charge = charge; entries = annals.entries; quanta = annals.quanta; totals = totals; resident = resident }

-- so it is, by what ending a core gives
pub run_is : (charge first : ℕ) (annals : Book) (totals : Totals) (resident : ℕ) (held : Held) → charge ≡ first → annals ≡ held.book.book
    → totals ≡ totals_in (high_mark held.runs.sizes) (charge_in held) held.book → resident ≡ resident_in held.log
    → run_with charge annals totals resident ≡ run_at first held
run_is charge first annals totals resident held same is are left = grind (arith, common_steps, nat_tests)

-- works of which none is open have no quanta
no_quanta : (works : List WorkSoFar) → ((seat : ℕ) → slice_index_or works seat no_work ≡ no_work) → sum_by (λ w. w.quanta) works ≡ 0
no_quanta [] none = refl
no_quanta (work ∷ works) none =
    omega (arith, sum_by-cons (λ (w : WorkSoFar). w.quanta) work works, ap (λ (w : WorkSoFar). w.quanta) (none zero), no_quanta works (λ seat. none (suc seat)))

-- the callers' quanta are those of the entries
by_lines_alone : (held : Held) (d : DiskState) → IsCore held d → Rests held → sum (take callers held.book.seats.quanta) ≡ sum held.book.book.quanta
by_lines_alone held d core rests =
    omega (arith, core.holds.told.told.booked.by_callers, no_quanta held.book.seats.work rests.idle)

-- a core that was just opened noted nothing
pub no_entries_yet : (annals : Book) (faults : ℕ) (held : Held) → IsOpened annals faults held → held.book.book.entries ≡ []
no_entries_yet annals faults held opened = ap (λ (b : BookState). b.book.entries) opened.book ∙ opened.entries

pub no_quanta_yet : (annals : Book) (faults : ℕ) (held : Held) → IsOpened annals faults held → held.book.book.quanta ≡ []
no_quanta_yet annals faults held opened = ap (λ (b : BookState). b.book.quanta) opened.book ∙ opened.quanta

geometry_of : (held : Held) (d : DiskState) → IsCore held d → IsGeometry held.runs.sizes
geometry_of held d core = subst IsGeometry core.holds.told.sizes core.holds.told.told.paced.within.sizes

-- on every disk the charge is within the capacity
charge_fits : (held : Held) (d : DiskState) → IsCore held d → charge_in held ≤ capacity held.runs.sizes
charge_fits held d core = grind (arith, common_steps, nat_tests)

-- ---- a run, whoever's threads made it

-- From a core that was just opened a script led here.
pub record HasRun {D : Type 0} (state : D → DiskState) (lines : List Line) (old new : CoreState D) : Type 0 where
  pub keeps : IsCore new.held (state new.disk)
  pub full : charge_in old.held ≤ capacity old.held.runs.sizes
  pub since : StandsSince state old new
  pub of_script : IsOfScript lines new.held.book.book.entries
  pub few : TookFew old.held.runs.sizes new.held.book.book.entries new.held.book.book.quanta
  pub by_callers : sum (take callers new.held.book.seats.quanta) ≡ sum new.held.book.book.quanta
  pub names : AllByRecursion (λ e. NamesStop e.reply new.held.book.stopped) new.held.book.book.entries
  pub tells : TellsFaults (faults_told new.held.book.book.entries) old.held new.held (state old.disk) (state new.disk)
  pub calls : ℕ
  pub effect : Reaches (file_length old.held.runs.sizes) calls (state old.disk) (state new.disk)

-- one thread did the lines one after another
module _ {D : Type 0} (state : D → DiskState) (lines : List Line) (annals : Book) (faults : ℕ) (old new : CoreState D)
    (opened : IsOpened annals faults old.held) (first : IsCore old.held (state old.disk))
    (begins : StandsSince state old old) (runs : Runs state lines old new) where
  core : IsCore new.held (state new.disk)
  core = chain_keeps state (λ (c : CoreState D). IsCore c.held (state c.disk)) (link_keeps state) runs.made.0 old new runs.made.1 first

  lines_added : new.held.book.book.entries ≡ runs.added
  lines_added = runs.entries ∙ ap (λ (es : List Entry). es ++ runs.added) (no_entries_yet annals faults old.held opened)

  lines_counted : new.held.book.book.quanta ≡ runs.counts
  lines_counted = runs.quanta ∙ ap (λ (ns : List ℕ). ns ++ runs.counts) (no_quanta_yet annals faults old.held opened)

  pub lines_asked : asked_in new.held.book.book.entries ≡ asked lines
  lines_asked = ap asked_in lines_added ∙ runs.asked_for

  pub by_lines : HasRun state lines old new
  by_lines = record {
    keeps = core;
    full = charge_fits old.held (state old.disk) first;
    since = runs.proceeds.lasts old begins;
    of_script = of_script lines new.held.book.book.entries lines_asked;
    few =
        subst (λ (es : List Entry). TookFew old.held.runs.sizes es new.held.book.book.quanta) (sym lines_added)
        (subst (λ (ns : List ℕ). TookFew old.held.runs.sizes runs.added ns) (sym lines_counted) runs.few);
    by_callers = by_lines_alone new.held (state new.disk) core runs.rests;
    names = subst (λ (es : List Entry). AllByRecursion (λ e. NamesStop e.reply new.held.book.stopped) es) (sym lines_added) runs.names;
    tells = subst (λ (es : List Entry). TellsFaults (faults_told es) old.held new.held (state old.disk) (state new.disk)) (sym lines_added) runs.proceeds.tells;
    calls = calls_for state lines old new runs.done;
    effect = runs.proceeds.effect;
  }

  pub lines_alone : sum (drop callers new.held.book.seats.quanta) ≡ 0
  lines_alone = quanta_alone old.held new.held runs.proceeds.alone ∙ ap (λ (b : BookState). sum (drop callers b.seats.quanta)) opened.book

-- callers and workers did it by calls of the core, each in its turn
pub by_threads : {D : Type 0} (state : D → DiskState) (lines : List Line) (workers turns : ℕ) (old new : CoreState D) → IsCore old.held (state old.disk) → (runs : RunsAll state lines workers turns old new)
    → ChainTells state runs.came.calls old new → ChainTakesFew state runs.came.calls old new → HasRun state lines old new
by_threads state lines workers turns old new core runs tells takes = record {
  keeps = runs.keeps;
  full = charge_fits old.held (state old.disk) core;
  since = runs.came.since;
  of_script = runs.of_script;
  few = takes.few;
  by_callers = takes.closed runs.idle;
  names = tells.names;
  tells = tells.tells;
  calls = calls_of_all old runs.came.calls;
  effect = tells.effect;
}

-- numbers of which the first n are t at most, and the others none
few_sum : (xs : List ℕ) (n t : ℕ) → ((i : ℕ) → i < n → slice_index xs i ≤ t) → ((i : ℕ) → n ≤ i → i < length xs → slice_index xs i ≡ 0) → sum xs ≤ n * t
few_sum [] n t few none = zero-le
few_sum (x ∷ xs) zero t few none =
    let first : x ≡ 0 = none 0 (omega arith) (omega arith) in
    let rest = few_sum xs zero t (λ i below. absurd (omega (arith, below))) (λ i above below. none (suc i) (omega arith) (omega (arith, below))) in
    omega (arith, first, rest, sum_by-cons (λ (m : ℕ). m) x xs)
few_sum (x ∷ xs) (suc n) t few none =
    let first : x ≤ t = few 0 (omega arith) in
    let rest = few_sum xs n t (λ i below. few (suc i) (omega (arith, below))) (λ i above below. none (suc i) (omega (arith, above)) (omega (arith, below))) in
    omega (arith, first, rest, sum_by-cons (λ (m : ℕ). m) x xs, suc-mul n t)

-- a worker took no more quanta than turns, so no more than the turns that it may, and nobody else took any but callers
pub workers_took : {D : Type 0} (state : D → DiskState) (lines : List Line) (workers turns : ℕ) (old new : CoreState D) → RunsAll state lines workers turns old new → sum (drop callers new.held.book.seats.quanta) ≤ workers * turns
workers_took state lines workers turns old new runs =
    let quanta = new.held.book.seats.quanta in
    let long : length quanta ≡ seats = runs.keeps.holds.told.told.booked.seats in
    let at : (i : ℕ) → slice_index (drop callers quanta) i ≡ slice_index quanta (callers + i) = λ i. get_or-drop callers quanta i 0 in
    few_sum (drop callers quanta) workers turns
    (λ i below. omega (arith, at i, (runs.few i below).0, (runs.few i below).1))
    (λ i above below. at i ∙ (runs.rested (callers + i) (omega (arith, above)) (omega (arith, below, length-drop callers quanta, long))).1)

-- how they ended is told of the core that is left
pub came_to_end : {D : Type 0} (state : D → DiskState) (lines : List Line) (workers turns : ℕ) (old new : CoreState D) → RunsAll state lines workers turns old new → HaveEnded workers turns new.held.gears new.held.book
came_to_end state lines workers turns old new runs = record { left = runs.left; idle = runs.idle; even = runs.even; helped = runs.helped; few = runs.few; rested = runs.rested }

pub ended_of : {D : Type 0} (state : D → DiskState) (lines : List Line) (workers turns : ℕ) (old new : CoreState D) → RunsAll state lines workers turns old new → (run : Run) → run ≡ run_at (charge_in old.held) new.held → CameToEnd workers turns run
ended_of state lines workers turns old new runs run is =
    subst (λ (r : Run). CameToEnd workers turns r) (sym is) (record { held = new.held; printed = refl; ended = came_to_end state lines workers turns old new runs })

-- ---- what it leaves to be printed

pub is_run_of : {D : Type 0} (state : D → DiskState) (lines : List Line) (workers turns : ℕ) (old new : CoreState D) → HasRun state lines old new
    → sum (drop callers new.held.book.seats.quanta) ≤ workers * turns → IsRunOf old.held.runs.sizes lines workers turns (run_at (charge_in old.held) new.held)
is_run_of state lines workers turns old new run helped = record {
  geometry = subst IsGeometry run.since.sizes (geometry_of new.held (state new.disk) run.keeps);
  full = run.full;
  of_script = run.of_script;
  few = run.few;
  callers = run.by_callers;
  helped = helped;
  stops = run.names;
  peak = run.since.peak;
  high = ap high_mark run.since.sizes;
}

-- so of what is printed
pub printed_of : {D : Type 0} (state : D → DiskState) (lines : List Line) (workers turns : ℕ) (old new : CoreState D) → HasRun state lines old new → RunsAll state lines workers turns old new → (run : Run) → run ≡ run_at (charge_in old.held) new.held
    → (first : DiskState) → HasLengthOf old.held.runs.sizes first → (sizes : Sizes) × HasLengthOf sizes first × IsRunOf sizes lines workers turns run
printed_of state lines workers turns old new has runs run is first long =
    (old.held.runs.sizes, long, subst (λ (r : Run). IsRunOf old.held.runs.sizes lines workers turns r) (sym is) (is_run_of state lines workers turns old new has (workers_took state lines workers turns old new runs)))

-- ---- a core that was just opened

no_turns_yet : (seat : ℕ) → slice_index (replicate (seats - callers) 0) seat ≡ 0
no_turns_yet seat = of_replicate (seats - callers) seat 0

-- it is as the lock takes it
pub is_fresh : {D : Type 0} (lines : List Line) (annals : Book) (faults : ℕ) (core : CoreState D) → IsOpened annals faults core.held → Rests core.held → HasRoomFor annals.room lines → IsFresh lines core
is_fresh lines annals faults core opened rests room = record {
  none = no_entries_yet annals faults core.held opened;
  runs = ap (λ (b : BookState). b.stopped) opened.book;
  rests = rests;
  helped = λ seat above below. ap (λ (b : BookState). slice_index b.seats.turns (seat - callers)) opened.book ∙ no_turns_yet (seat - callers);
  took_none = λ seat. ap (λ (b : BookState). slice_index b.seats.quanta seat) opened.book ∙ of_replicate seats seat 0;
  room = subst (λ (r : Room). HasRoomFor r lines) (sym (ap (λ (b : BookState). b.book.room) opened.book)) room;
}

-- and nothing was asked of it
pub is_unasked : {D : Type 0} (state : D → DiskState) (annals : Book) (faults : ℕ) (core : CoreState D) → IsOpened annals faults core.held → Rests core.held → IsCore core.held (state core.disk) → StandsSince state core core
    → IsUnasked state core
is_unasked state annals faults core opened rests keeps begins = record {
  keeps = keeps;
  begins = begins;
  none = no_entries_yet annals faults core.held opened;
  runs = ap (λ (b : BookState). b.stopped) opened.book;
  idle = rests.idle;
}

-- no quantum was counted for a worker yet, so each one is one of its turns
pub few_turned : {D : Type 0} (state : D → DiskState) (calls : List (Step × CoreState D)) (annals : Book) (faults : ℕ) (old new : CoreState D) → IsOpened annals faults old.held
    → ChainHelps state calls old new → sum (drop callers new.held.book.seats.quanta) ≤ helps_in (steps_of calls)
few_turned state calls annals faults old new opened helps = grind (arith, common_steps, nat_tests)
