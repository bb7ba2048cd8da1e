-- What an end tells of the states before it: they ran, had no entry that it lacks, and a work that none of the seat's entries ended never began.
use Rattle.std.proofs.Common.{◌≡◌, ◌≢◌, ◌∙◌, refl, ap, sym, subst, ℕ, zero, suc, ◌+◌, ◌-◌, ◌<◌, Bool, cond, true, false, ◌&&◌, inl, inr, List, [], ◌∷◌, ◌++◌, Option, None, arith, eqb-true, lt-ltb, leb-true}
use Rattle.std.proofs.lemmas.Grind.{common_steps}
use Rattle.std.proofs.lemmas.Bool.Decides.{nat_tests}
use Rattle.std.specs.Prelude.{◌==◌, nat_le, nat_lt, slice_index, slice_index_or, slice_set}
use Rattle.std.specs.List.{AllByRecursion}
use Rattle.std.proofs.lemmas.Bool.{false≢true, eq-eqb}
use Rattle.blsm_model.specs.Facts.{Notes}
use Rattle.blsm_model.specs.Format.{callers, most_rows}
use Rattle.blsm_model.specs.Legal.{is_write, is_look}
use Rattle.blsm_model.specs.declared.history.Entry.{Entry}
use Rattle.blsm_model.specs.declared.history.Why.{Why}
use Rattle.blsm_model.specs.declared.op.Op.TheVariants.{Work}
use Rattle.tree_machine.proofs.FoldLemmas.{both_hold}
use Rattle.tree_machine.proofs.FrameLemmas.{step_follows}
use Rattle.tree_machine.specs.declared.step.Kind.{Kind}
use Rattle.tree_machine.specs.declared.step.Kind.TheVariants as kind
use Rattle.tree_machine.specs.declared.step.Step.{Step}
use Rattle.tree_machine.specs.Machine.{Machine, WorkSoFar, is_caller, no_work, seats, work_of}
use Rattle.tree_machine.specs.Outcomes.{work_choice}
use Rattle.tree_machine.specs.Plays.{has_room, is_between, is_even, may, may_note, may_step, played, played_one, stepped, stepped_as}
use Rattle.tree_machine.specs.Steps.{Outcome, Well, chosen, do_turn, pay, with_turn, work_reply}
use Rattle.alone_run.proofs.Moves.{chosen_moves}
use Rattle.alone_run.proofs.Payments.{pay_as_well, pay_pays}
use Rattle.alone_run.proofs.Readings.{Seen, entry_of, last_of}
use Rattle.alone_run.proofs.Turns.{turn_as_well, turn_is}
use Rattle.tree_machine.proofs.Terms.{turns_of}

-- ---- entries and stops

front_of : (P : Entry → Type 0) (xs : List Entry) (x : Entry) → AllByRecursion P (xs ++ x ∷ []) → AllByRecursion P xs
front_of P [] x all = tt
front_of P (y ∷ xs) x all = (all.0, front_of P xs x all.1)

one_since : (P : Entry → Type 0) (m : Machine) (made : Step × Outcome) → AllByRecursion P (played_one m made).book.entries → AllByRecursion P m.book.entries
one_since P m made = by (may_step m made.0) refl
  where
    noted : Notes made.0.seat m.book.entries (stepped m made.0 made.1).state.book.entries → AllByRecursion P (stepped m made.0 made.1).state.book.entries → AllByRecursion P m.book.entries
    noted (inl same) all = subst (λ es. AllByRecursion P es) same all
    noted (inr more) all = front_of P m.book.entries more.0 (subst (λ es. AllByRecursion P es) more.2 all)

    by : (b : Bool) → may_step m made.0 ≡ b → AllByRecursion P (cond b (stepped m made.0 made.1).state m).book.entries → AllByRecursion P m.book.entries
    by true is all = noted (step_follows m made.0.seat made.0.kind made.1 is).history all
    by false is all = all

pub entries_since : (P : Entry → Type 0) (m : Machine) (rest : List (Step × Outcome)) → AllByRecursion P (played m rest).book.entries → AllByRecursion P m.book.entries
entries_since P m [] all = all
entries_since P m (made ∷ rest) all = one_since P m made (entries_since P (played_one m made) rest all)

one_ran : (m : Machine) (made : Step × Outcome) → (played_one m made).stopped ≡ None → m.stopped ≡ None
one_ran m made = by (may_step m made.0)
  where
    stays : (o : Option Why) → m.stopped ≡ o → (stepped m made.0 made.1).state.stopped ≡ None → o ≡ None
    stays o h1 h2 = grind (arith, common_steps, nat_tests)

    by : (b : Bool) → (cond b (stepped m made.0 made.1).state m).stopped ≡ None → m.stopped ≡ None
    by b h1 = grind (arith, common_steps, nat_tests)

pub ran_since : (m : Machine) (rest : List (Step × Outcome)) → (played m rest).stopped ≡ None → m.stopped ≡ None
ran_since m [] runs = runs
ran_since m (made ∷ rest) runs = one_ran m made (ran_since (played_one m made) rest runs)

-- ---- open works

pub between : (seat rows : ℕ) (m : Machine) → may_note seat rows m ≡ true → (work_of seat m).turns ≡ 0
between seat rows m ok = eqb-true (work_of seat m).turns 0 (both_hold (is_caller seat && has_room m.book.room seat rows) (is_between seat m) ok).1

pub admit_between : (m : Machine) (seat : ℕ) (write even : Bool) → (write && may_note seat 0 m && even) ≡ true → (work_of seat m).turns ≡ 0
admit_between m seat write even ok = between seat 0 m (both_hold write (may_note seat 0 m) (both_hold (write && may_note seat 0 m) even ok).0).1

pub next_between : (m : Machine) (seat n : ℕ) → (may_note seat n m && nat_lt 0 n && nat_le n most_rows) ≡ true → (work_of seat m).turns ≡ 0
next_between m seat n ok = between seat n m (both_hold (may_note seat n m) (nat_lt 0 n) (both_hold (may_note seat n m && nat_lt 0 n) (nat_le n most_rows) ok).0).0

-- a work that was set to some turns was not set at all, where it has none
none_set : (works : List WorkSoFar) (seat : ℕ) (work : WorkSoFar) (n : ℕ) → work.turns ≡ n + 1 → (slice_index_or (slice_set works seat work) seat no_work).turns ≡ 0 → (slice_index_or works seat no_work).turns ≡ 0
none_set [] seat work n some none = refl
none_set (w ∷ works) zero work n some none = absurd (omega (arith, some, none))
none_set (w ∷ works) (suc seat) work n some none = none_set works seat work n some none

module _ (s u : ℕ) (other : u ≢ s) (caller : u < callers) where
  abbrev Asked : List Entry → Type 0
  Asked es = AllByRecursion (λ (e : Entry). e.seat ≡ s) es

  own_closed : (m : Machine) (k : Kind) (outcome : Outcome) → may m u k ≡ true → m.stopped ≡ None → (stepped_as m u k outcome).state.stopped ≡ None → Asked (stepped_as m u k outcome).state.book.entries
      → (work_of u (stepped_as m u k outcome).state).turns ≡ 0 → (work_of u m).turns ≡ 0
  own_closed m (kind.Admit op) outcome ok ran runs asked none = admit_between m u (is_write op) (is_even u m) ok
  own_closed m kind.Pay outcome ok ran runs asked none =
      let same : (pay m u outcome).state.seats.work ≡ m.seats.work = ap (λ (n : Machine). n.seats.work) (pay_as_well m u outcome runs) ∙ ap (λ (v : Seen). v.work) (pay_pays u m).seen in
      ap (λ (ws : List WorkSoFar). (slice_index_or ws u no_work).turns) (sym same) ∙ none
  own_closed m (kind.Look op) outcome ok ran runs asked none = between u 0 m (both_hold (is_look op) (may_note u 0 m) ok).1
  own_closed m (kind.Hold low high) outcome ok ran runs asked none = between u 0 m ok
  own_closed m (kind.Next n) outcome ok ran runs asked none = next_between m u n ok
  own_closed m kind.Release outcome ok ran runs asked none = between u 0 m ok
  own_closed m kind.WorkTurn outcome ok ran runs asked none =
      let is = turn_as_well m u outcome runs ∙ turn_is m u ran in
      ap (λ (ws : List WorkSoFar). (slice_index_or ws u no_work).turns) (sym (chosen_moves (work_choice m) u m).work)
      ∙ none_set (chosen (work_choice m) u m).seats.work u (with_turn (work_of u m) (do_turn (work_choice m) Well u m)) (work_of u m).turns refl (ap (λ (n : Machine). (work_of u n).turns) (sym is) ∙ none)
  own_closed m (kind.WorkEnd n) outcome ok ran runs asked none =
      absurd (other (last_of (λ (e : Entry). e.seat ≡ s) m.book.entries (entry_of u (Work n) (work_reply (work_of u m) m.stopped)) asked))
  own_closed m kind.WorkerTurn outcome ok ran runs asked none =
      absurd (let above = leb-true callers u (both_hold (nat_le callers u) (nat_lt u seats) ok).0 in omega (arith, above, caller))
  own_closed m kind.Leave outcome ok ran runs asked none = none

  one_closed : (m : Machine) (made : Step × Outcome) → m.stopped ≡ None → (played_one m made).stopped ≡ None → Asked (played_one m made).book.entries → (work_of u (played_one m made)).turns ≡ 0 → (work_of u m).turns ≡ 0
  one_closed m made ran = by (may_step m made.0) refl
    where
      turns_are : (n : Machine) → turns_of u n ≡ (work_of u n).turns
      turns_are n = ap (λ b. cond b (work_of u n).turns (slice_index n.seats.turns (u - callers))) (lt-ltb u callers caller)

      of_seat : (t : ℕ) (b : Bool) → (u == t) ≡ b → may m t made.0.kind ≡ true → (stepped_as m t made.0.kind made.1).state.stopped ≡ None → Asked (stepped_as m t made.0.kind made.1).state.book.entries
          → (work_of u (stepped_as m t made.0.kind made.1).state).turns ≡ 0 → (work_of u m).turns ≡ 0
      of_seat t true same ok runs asked none =
          subst (λ v. may m v made.0.kind ≡ true → (stepped_as m v made.0.kind made.1).state.stopped ≡ None → Asked (stepped_as m v made.0.kind made.1).state.book.entries
          → (work_of u (stepped_as m v made.0.kind made.1).state).turns ≡ 0 → (work_of u m).turns ≡ 0) (eqb-true u t same)
          (λ fine going named closed. own_closed m made.0.kind made.1 fine ran going named closed) ok runs asked none
      of_seat t false differs ok runs asked none =
          let eases = (step_follows m t made.0.kind made.1 ok).others u (λ is. false≢true (sym differs ∙ eq-eqb u t is)) in
          sym (turns_are m) ∙ sym eases.turns ∙ turns_are (stepped_as m t made.0.kind made.1).state ∙ none

      by : (b : Bool) → may_step m made.0 ≡ b → (cond b (stepped m made.0 made.1).state m).stopped ≡ None → Asked (cond b (stepped m made.0 made.1).state m).book.entries → (work_of u (cond b (stepped m made.0 made.1).state m)).turns ≡ 0
          → (work_of u m).turns ≡ 0
      by true is runs asked none = of_seat made.0.seat (u == made.0.seat) refl is runs asked none
      by false is runs asked none = none

  pub closed_since : (m : Machine) (rest : List (Step × Outcome)) → (played m rest).stopped ≡ None → Asked (played m rest).book.entries → (work_of u (played m rest)).turns ≡ 0 → (work_of u m).turns ≡ 0
  closed_since m [] runs asked none = none
  closed_since m (made ∷ rest) runs asked none =
      let runs_there = ran_since (played_one m made) rest runs in
      one_closed m made (one_ran m made runs_there) runs_there (entries_since (λ (e : Entry). e.seat ≡ s) (played_one m made) rest asked) (closed_since (played_one m made) rest runs asked none)
