-- A run of all jobs, once the lock is closed.
use Rattle.std.proofs.Common.{◌≡◌, ◌∙◌, ⊎_elim, ℕ, ◌+◌, ◌-◌, ◌<◌, ◌≤◌, true, List, map, ap, sym, subst, arith}
use Rattle.std.specs.Prelude.{is_some, slice_index}
use Rattle.std.proofs.lemmas.Bool.{cases_lt, false≢true}
use Rattle.blsm_model.specs.Format.{callers}
use Rattle.blsm_model.specs.Scripts.{IsOfScript}
use Rattle.blsm_model.specs.declared.history.Entry.{Entry}
use Rattle.blsm_model.specs.declared.history.Line.{Line}
use Rattle.disk_trait.specs.Disk.{DiskState}
use Rattle.seat_book.specs.Seats.{turns_in}
use Rattle.turn_lock.specs.Callers.{Held as Caller, Lock, IsOpened}
use Rattle.turn_lock.specs.Rule.{IsKnown}
use Rattle.tree_machine.specs.Machine.{seats}
use Rattle.tree_core.specs.Calls.{CameSince}
use Rattle.tree_core.specs.Core.{CoreState, IsCore}
use Rattle.tree_session.specs.Lines.{AreRunnable}
use Rattle.tree_shared.specs.Seats.{IsGone, facts_of}
use Rattle.tree_shared.specs.Runs.{Ends, HasEnded, IsFresh, RunsAll, SawFront}
use Rattle.core_chain.proofs.LinkLemmas.{chain_keeps, link_keeps}
use Rattle.core_chain.proofs.NoteLemmas.{AreCallers, entries_are_callers, none_of_workers}
use Rattle.tree_shared.proofs.JobLemmas.{lines_none, worker_turns}
use Rattle.tree_shared.proofs.RestLemmas.{ended_in_value, saw_front, spare_in_value, told_of}
use Rattle.tree_shared.proofs.SeatLemmas.{caller_turns, is_a_caller}

module _ {D : Type 0} (state : D → DiskState) (lines : List Line) (workers turns : ℕ) (start end : CoreState D) (lock : Lock (CoreState D)) (c d : Caller (CoreState D))
    (fresh : IsFresh lines start) (runnable : AreRunnable lines) (few : callers + workers ≤ seats) (opened : IsOpened start lock c) (ends : Ends state lines turns lock (callers - 1 + workers) c d)
    (came : CameSince state lock.start end) (known : IsKnown facts_of (CameSince state) lock.start end d.me.0)
    (keeps : IsCore start.held (state start.disk)) where
  told : (i : ℕ) → i < callers + workers → HasEnded lines turns (is_some end.held.book.stopped) i end
  told i below = ended_in_value state lines turns lock i d end known (told_of state lines turns lock (callers - 1 + workers) i start c d opened ends (omega (arith, below)))

  saw : (seat : ℕ) → seat < callers → SawFront state seat lock.start end
  saw seat below = saw_front state lines turns lock seat d end below known (told_of state lines turns lock (callers - 1 + workers) seat start c d opened ends (omega (arith, below)))

  their_entries : AreCallers end.held.book.book.entries
  their_entries = entries_are_callers state came.calls lock.start end came.are
      (subst (λ (es : List Entry). AreCallers es) (sym (ap (λ (core : CoreState D). core.held.book.book.entries) opened.start ∙ fresh.none)) tt)

  of_script : IsOfScript lines end.held.book.book.entries
  of_script = λ seat. ⊎_elim
      (λ (below : seat < callers). (told seat (omega (arith, below))).asked)
      (λ (above : callers ≤ seat). ap (map (λ (e : Entry). e.op)) (none_of_workers seat end.held.book.book.entries above their_entries) ∙ sym (lines_none seat lines runnable above))
      (cases_lt seat callers)

  gone : (seat : ℕ) → seat < callers → IsGone (is_some end.held.book.stopped) ((facts_of end).part seat)
  gone seat below = (told seat (omega (arith, below))).gone below

  pub runs_all : RunsAll state lines workers turns start end
  runs_all = record {
    of_script = of_script;
    came = subst (λ (core : CoreState D). CameSince state core end) opened.start came;
    keeps = chain_keeps state (λ (core : CoreState D). IsCore core.held (state core.disk)) (link_keeps state) came.calls lock.start end came.are
        (subst (λ (core : CoreState D). IsCore core.held (state core.disk)) (sym opened.start) keeps);
    left = λ seat below. (gone seat below).0;
    saw = λ seat below. subst (λ (core : CoreState D). SawFront state seat core end) opened.start (saw seat below);
    idle = λ seat below. sym (caller_turns seat end.held.book (is_a_caller seat below)) ∙ (gone seat below).1;
    even = λ runs seat below. ⊎_elim
        (λ (was : is_some end.held.book.stopped ≡ true). absurd (false≢true (sym (ap is_some runs) ∙ was)))
        (λ (none : ((facts_of end).part seat).debt1 + ((facts_of end).part seat).debt2 ≡ 0). none)
        (gone seat below).2;
    helped = λ some i below.
        let at : callers + i - callers ≡ i = omega arith in
        subst (λ (n : ℕ). 0 < slice_index end.held.book.seats.turns n) at
        (subst (λ (n : ℕ). 0 < n) (worker_turns (callers + i) end.held.book (omega arith)) ((told (callers + i) (omega (arith, below))).helped (omega arith) some));
    few = λ i below.
        let most = (told (callers + i) (omega (arith, below))).few (omega arith) in
        let at : callers + i - callers ≡ i = omega arith in (
          subst (λ (n : ℕ). slice_index end.held.book.seats.turns n ≤ turns) at
              (subst (λ (n : ℕ). n ≤ turns) (worker_turns (callers + i) end.held.book (omega arith)) most.0),
          subst (λ (n : ℕ). slice_index end.held.book.seats.quanta (callers + i) ≤ slice_index end.held.book.seats.turns n) at
              (subst (λ (n : ℕ). slice_index end.held.book.seats.quanta (callers + i) ≤ n) (worker_turns (callers + i) end.held.book (omega arith)) most.1),
        );
    rested = λ seat above below.
        let eases = spare_in_value state lines turns lock seat (callers - 1 + workers) c d end known ends (omega (arith, opened.next, above)) (omega (arith, below)) in
        let idle : turns_in seat lock.start.held.book ≡ 0 = worker_turns seat lock.start.held.book (omega (arith, above)) ∙ (ap (λ (core : CoreState D). slice_index core.held.book.seats.turns (seat - callers)) opened.start ∙ fresh.helped seat (omega (arith, above)) below) in
        let none : slice_index lock.start.held.book.seats.quanta seat ≡ 0 = ap (λ (core : CoreState D). slice_index core.held.book.seats.quanta seat) opened.start ∙ fresh.took_none seat in
        (eases.turns ∙ idle, eases.quanta ∙ none);
  }
