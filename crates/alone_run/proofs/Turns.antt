-- A write that is admitted, and turns of work.
use Rattle.std.proofs.Common.{◌≡◌, ◌∙◌, refl, ap, sym, subst, ℕ, zero, suc, ◌+◌, ◌-◌, ◌<◌, ◌≤◌, Bool, cond, true, false, ◌&&◌, List, [], ◌∷◌, ◌++◌, length, option_map, replicate, Option, Some, None, arith, eqb-true, lt-ltb, ltb-true, get_or-set_same, set-set, length-set, length-append}
use Rattle.std.proofs.lemmas.Grind.{common_steps}
use Rattle.std.proofs.lemmas.Bool.Decides.{nat_tests}
use Rattle.std.specs.Prelude.{nat_le, slice_index, slice_set}
use Rattle.std.proofs.lemmas.Bool.{true≢false}
use Rattle.blsm_model.specs.Book.{Book}
use Rattle.blsm_model.specs.Format.{callers}
use Rattle.blsm_model.specs.Geometry.{c1_mark}
use Rattle.blsm_model.specs.Histories.{is_met, looked_at, looks_first, writes_of}
use Rattle.blsm_model.specs.Legal.{total_weight}
use Rattle.blsm_model.specs.declared.history.Entry.{Entry}
use Rattle.blsm_model.specs.declared.history.Reply.{Reply}
use Rattle.blsm_model.specs.declared.history.Reply.TheVariants.{Damaged, Done, Fault, Full}
use Rattle.blsm_model.specs.declared.op.Op.{Op}
use Rattle.blsm_model.specs.declared.row.Value.{Value}
use Rattle.record_delta.specs.Entries.{entries_weight}
use Rattle.tree_machine.proofs.FoldLemmas.{both, both_hold}
use Rattle.tree_machine.proofs.PlayLemmas.{of_replicate}
use Rattle.tree_machine.specs.Lists.{value_in}
use Rattle.tree_machine.specs.Machine.{Machine, Idle, WorkSoFar, charge, no_work, work_of}
use Rattle.tree_machine.specs.Merges.{Merge, quantum_of}
use Rattle.tree_machine.specs.Moves.{end_pass, note, output_of, pass_quantum_of, deep_quantum_of, rotate, with_peak}
use Rattle.tree_machine.specs.Outcomes.{work_choice}
use Rattle.tree_machine.specs.Plays.{is_finished}
use Rattle.tree_machine.specs.Steps.{
  Choice,
  SwapDeep,
  SwapPass,
  DeepQuantum,
  PassQuantum,
  Begin,
  Rotate,
  Rest,
  Outcome,
  Well,
  FailedAfter,
  FailedLooking,
  Broken,
  NoRoom,
  Stepped,
  admit,
  admit_met,
  admit_fitting,
  is_full,
  refused_first,
  told_by_look,
  unless_refused,
  chosen,
  ended_as,
  is_idle,
  quanta_of,
  ready_for,
  replied,
  taken_together,
  with_turn,
  work_end,
  work_noted,
  work_turn,
  work_turning,
}
use Rattle.alone_run.specs.Alone.{is_over, is_trouble, turned}
use Rattle.alone_run.proofs.Moves.{Moves, Synced, chosen_moves, moves_none, moves_on, ready_moves, taken_moves}
use Rattle.alone_run.proofs.Payments.{IsEven}
use Rattle.alone_run.proofs.Readings.{Calm, entry_of, last_of, running_is}

-- ---- a write that leaves the tree running, and whose lookup didn't fail, is as one that went well

met_as_well : (m : Machine) (seat : ℕ) (op : Op) (e : Outcome) → m.stopped ≡ None → (admit_met m seat op e).state.stopped ≡ None →
    (admit_met m seat op e).state ≡ (admit_met m seat op Well).state
met_as_well m seat op e none runs = grind (arith, common_steps, nat_tests)

abbrev looked : Machine → ℕ → Op → Outcome → Stepped
looked m seat op e = unless_refused (refused_first m op e) seat op m (admit_met m seat op e)

pub admit_as_well : (m : Machine) (seat : ℕ) (op : Op) (outcome : Outcome) → m.stopped ≡ None → (admit m seat op outcome).state.stopped ≡ None
    → Calm (admit m seat op outcome).state.book.entries → (admit m seat op outcome).state ≡ (admit m seat op Well).state
admit_as_well m seat op outcome none runs calm =
    running_is m seat op (looked m seat op outcome) none
    ∙ by (looks_first op) (is_met op (value_in m.lists)) (looked_at op (value_in m.lists)) outcome
    (subst (λ (n : Machine). n.stopped ≡ None) (running_is m seat op (looked m seat op outcome) none) runs)
    (subst (λ (n : Machine). Calm n.book.entries) (running_is m seat op (looked m seat op outcome) none) calm)
    ∙ sym (running_is m seat op (looked m seat op Well) none)
  where
    troubled : (reply : Reply) → is_trouble reply ≡ true → Calm (note seat op reply m).book.entries → ⊥
    troubled reply is calm = true≢false (sym is ∙ last_of (λ (e : Entry). is_trouble e.reply ≡ false) m.book.entries (entry_of seat op reply) calm)

    by : (first met : Bool) (found : Option Value) (e : Outcome)
        → (let new = (unless_refused (cond first (told_by_look e met found) None) seat op m (admit_met m seat op e)).state in new.stopped ≡ None →
        Calm new.book.entries
        → new ≡ (unless_refused (cond first (told_by_look Well met found) None) seat op m (admit_met m seat op Well)).state)
    by false met found e runs calm = met_as_well m seat op e none runs
    by true met found (FailedLooking faults) runs calm = absurd (troubled Fault refl calm)
    by true met found (Broken page) runs calm = absurd (troubled (Damaged page) refl calm)
    by true true found (FailedAfter commits faults) runs calm = met_as_well m seat op (FailedAfter commits faults) none runs
    by true false found (FailedAfter commits faults) runs calm = refl
    by true met found Well runs calm = refl
    by true true found NoRoom runs calm = met_as_well m seat op NoRoom none runs
    by true false found NoRoom runs calm = refl

-- it notes one entry
pub record Notes (seat : ℕ) (op : Op) (old new : Machine) : Type 0 where
  pub reply : Reply
  pub entries : new.book.entries ≡ old.book.entries ++ entry_of seat op reply ∷ []
  pub lengths : length old.book.quanta ≡ length old.book.entries → length new.book.quanta ≡ length new.book.entries
  pub synced : Synced old → Synced new
  pub work : new.seats.work ≡ old.seats.work
  pub stopped : new.stopped ≡ old.stopped

pub longer : (es : List Entry) (qs : List ℕ) (e : Entry) (q : ℕ) → length qs ≡ length es → length (qs ++ q ∷ []) ≡ length (es ++ e ∷ [])
longer es qs e q same = omega (arith, length-append es (e ∷ []), length-append qs (q ∷ []), same)

noted_after : (seat : ℕ) (op : Op) (reply : Reply) (m n : Machine) → Moves m n → Notes seat op m (note seat op reply n)
noted_after seat op reply m n moves = record {
  reply = reply;
  entries = ap (λ (b : Book). b.entries ++ entry_of seat op reply ∷ []) moves.book;
  lengths = λ same. longer n.book.entries n.book.quanta (entry_of seat op reply) 0 (subst (λ (b : Book). length b.quanta ≡ length b.entries) (sym moves.book) same);
  synced = moves.synced;
  work = moves.work;
  stopped = moves.stopped;
}

pub admit_notes : (m : Machine) (seat : ℕ) (op : Op) → m.stopped ≡ None → Notes seat op m (admit m seat op Well).state
admit_notes m seat op none =
    subst (λ n. Notes seat op m n) (sym (running_is m seat op (unless_refused (refused_first m op Well) seat op m (admit_met m seat op Well)) none))
    (refused (refused_first m op Well))
  where
    by : (b : Bool) → Notes seat op m (cond b (replied seat op (Full (charge m)) m) (admit_fitting m seat op (total_weight (writes_of op)) Well)).state
    by true = noted_after seat op (Full (charge m)) m m (moves_none m)
    by false =
        let moves = moves_on (ready_moves (total_weight (writes_of op)) m) (taken_moves seat (writes_of op) (ready_for (total_weight (writes_of op)) m)) in
        noted_after seat op Done m (with_peak (taken_together seat (writes_of op) (ready_for (total_weight (writes_of op)) m)))
        (record { synced = moves.synced; work = moves.work; book = moves.book; stopped = moves.stopped })

    refused : (o : Option Reply) → Notes seat op m (unless_refused o seat op m (admit_met m seat op Well)).state
    refused (Some reply) = noted_after seat op reply m m (moves_none m)
    refused None = by (is_full m op)

-- ---- a turn that leaves the tree running is as one that went well

pub turn_as_well : (m : Machine) (seat : ℕ) (outcome : Outcome) → (work_turn m seat outcome).state.stopped ≡ None → (work_turn m seat outcome).state ≡ (work_turn m seat Well).state
turn_as_well m seat outcome runs = grind (arith, common_steps, nat_tests)

-- what the work is after a turn of this choice
abbrev pub work_after : Choice → WorkSoFar → WorkSoFar
work_after c work = record {
  turns = work.turns + 1;
  worked = cond (is_idle (ended_as c)) work.worked (work.worked + 1);
  quanta = work.quanta + quanta_of c;
  last = ended_as c;
}

abbrev pub turn_of : Choice → ℕ → Machine → Machine
turn_of c seat m = work_noted seat (work_after c (work_of seat m)) (chosen c seat m)

pub turn_is : (m : Machine) (seat : ℕ) → m.stopped ≡ None → (work_turn m seat Well).state ≡ turn_of (work_choice m) seat m
turn_is m seat none = ap (λ o. work_noted seat (with_turn (work_of seat m) (work_turning o m seat Well)) (work_turning o m seat Well).state) none

-- the seat's own debts don't rise by it
pub replicated : (seat : ℕ) → slice_index (replicate callers 0) seat ≡ 0
replicated seat = of_replicate 16 seat 0

none_taken : (debts : List ℕ) (seat n : ℕ) → slice_index debts seat ≡ 0 → slice_index (slice_set debts seat (slice_index debts seat - n)) seat ≡ 0
none_taken debts seat n none = grind (arith, common_steps, nat_tests)

chosen_even : (c : Choice) (seat : ℕ) (m : Machine) → IsEven seat m → IsEven seat (chosen c seat m)
chosen_even SwapDeep seat m even = (even.0, replicated seat)
chosen_even SwapPass seat m even = by (nat_le (c1_mark m.gears.sizes) (entries_weight (output_of m.merges.pass)))
  where
    by : (b : Bool) → IsEven seat (cond b (rotate (end_pass m)) (end_pass m))
    by true = (replicated seat, replicated seat)
    by false = (replicated seat, even.1)
chosen_even DeepQuantum seat m even = by m.merges.deep
  where
    by : (p : Option Merge) → IsEven seat (deep_quantum_of p seat m)
    by None = even
    by (Some deep) = (even.0, none_taken m.gears.second_debts seat (quantum_of m.gears.sizes.quantum deep m.lists.c1x m.lists.c2).weight even.1)
chosen_even PassQuantum seat m even = by m.merges.pass
  where
    by : (p : Option Merge) → IsEven seat (pass_quantum_of p seat m)
    by None = even
    by (Some pass) = (none_taken m.gears.first_debts seat (quantum_of m.gears.sizes.quantum pass m.lists.a m.lists.c1).weight even.0, even.1)
chosen_even Begin seat m even = (replicated seat, even.1)
chosen_even Rotate seat m even = (even.0, replicated seat)
chosen_even Rest seat m even = even

-- a work that is over rests
abbrev pub RestsOnceOver : ℕ → Machine → Type 0
RestsOnceOver seat m = is_over (work_of seat m) ≡ true → ((work_of seat m).last ≡ Idle) × (work_choice m ≡ Rest)

-- what a turn leaves
pub record Turns (seat : ℕ) (old new : Machine) : Type 0 where
  pub turns : (work_of seat new).turns ≡ (work_of seat old).turns + 1
  pub book : new.book ≡ old.book
  pub synced : Synced old → Synced new
  pub works : length new.seats.work ≡ length old.seats.work
  pub stopped : new.stopped ≡ old.stopped
  pub even : IsEven seat old → IsEven seat new
  pub rests : RestsOnceOver seat new

module _ (m : Machine) (seat : ℕ) (none : m.stopped ≡ None) (within : seat < length m.seats.work) where
  work_is : (c : Choice) → work_of seat (turn_of c seat m) ≡ work_after c (work_of seat m)
  work_is c = get_or-set_same (chosen c seat m).seats.work seat (work_after c (work_of seat m)) no_work (subst (λ (ws : List WorkSoFar). seat < length ws) (sym (chosen_moves c seat m).work) within)

  rests_by : (c : Choice) → work_choice m ≡ c → is_over (work_after c (work_of seat m)) ≡ true → (ended_as c ≡ Idle) × (work_choice (turn_of c seat m) ≡ Rest)
  rests_by c h1 h2 = grind (arith, common_steps, nat_tests)

  pub turn_turns : Turns seat m (work_turn m seat Well).state
  turn_turns = subst (λ n. Turns seat m n) (sym (turn_is m seat none)) (record {
    turns = ap (λ (w : WorkSoFar). w.turns) (work_is (work_choice m));
    book = (chosen_moves (work_choice m) seat m).book;
    synced = (chosen_moves (work_choice m) seat m).synced;
    works = length-set (chosen (work_choice m) seat m).seats.work seat (work_after (work_choice m) (work_of seat m)) ∙ ap (λ (ws : List WorkSoFar). length ws) (chosen_moves (work_choice m) seat m).work;
    stopped = (chosen_moves (work_choice m) seat m).stopped;
    even = λ even. chosen_even (work_choice m) seat m even;
    rests = λ over. let rest = rests_by (work_choice m) refl (ap is_over (sym (work_is (work_choice m))) ∙ over) in (ap (λ (w : WorkSoFar). w.last) (work_is (work_choice m)) ∙ rest.0, rest.1);
  })

-- ---- a turn after one that rested changes the number of turns alone, which the end of the work doesn't tell

end_again : (m : Machine) (seat n : ℕ) → seat < length m.seats.work → (work_of seat m).last ≡ Idle → (work_end (turn_of Rest seat m) seat n).state ≡ (work_end m seat n).state
end_again m seat n within idle = grind (arith, common_steps, nat_tests, get_or-set_same, option_map, set-set)

-- ---- the turns that are left

turned_over : (k seat : ℕ) (m : Machine) → is_over (work_of seat m) ≡ true → turned k seat m ≡ m
turned_over zero seat m over = refl
turned_over (suc k) seat m over = ap (λ b. cond b m (turned k seat (work_turn m seat Well).state)) over

-- A work is the same from its next turn on.
pub turned_first : (m : Machine) (seat n : ℕ) → m.stopped ≡ None → seat < length m.seats.work → RestsOnceOver seat m → (work_of seat (work_turn m seat Well).state).turns ≤ n
    → (work_end (turned (n - (work_of seat m).turns) seat m) seat n).state
    ≡ (work_end (turned (n - (work_of seat (work_turn m seat Well).state).turns) seat (work_turn m seat Well).state) seat n).state
turned_first m seat n none within rests few =
    let next = (work_turn m seat Well).state in
    let turns = (turn_turns m seat none within).turns in
    let left : n - (work_of seat m).turns ≡ suc (n - (work_of seat next).turns) = omega (arith, few, turns) in
    ap (λ k. (work_end (turned k seat m) seat n).state) left ∙ by (is_over (work_of seat m)) refl (n - (work_of seat next).turns)
  where
    by : (b : Bool) → is_over (work_of seat m) ≡ b → (k : ℕ) → (work_end (turned (suc k) seat m) seat n).state ≡ (work_end (turned k seat (work_turn m seat Well).state) seat n).state
    by false is k = ap (λ b. (work_end (cond b m (turned k seat (work_turn m seat Well).state)) seat n).state) is
    by true is k =
        let next_is : (work_turn m seat Well).state ≡ turn_of Rest seat m = turn_is m seat none ∙ ap (λ c. turn_of c seat m) (rests is).1 in
        let over : is_over (work_of seat (turn_of Rest seat m)) ≡ true = ap is_over (work_is m seat none within Rest) ∙ ap (λ b. b && true) (lt-ltb 0 ((work_of seat m).turns + 1) (omega arith)) in
        ap (λ x. (work_end x seat n).state) (turned_over (suc k) seat m is)
        ∙ sym (end_again m seat n within (rests is).0)
        ∙ sym (ap (λ x. (work_end x seat n).state) (turned_over k seat (turn_of Rest seat m) over))
        ∙ sym (ap (λ x. (work_end (turned k seat x) seat n).state) next_is)

-- a work that may end has no turns left, and had no more than that
pub finished : (m : Machine) (seat n : ℕ) → is_finished n (work_of seat m) ≡ true → (turned (n - (work_of seat m).turns) seat m ≡ m) × ((work_of seat m).turns ≤ n)
finished m seat n is = grind (arith, common_steps, nat_tests, eqb-true, both_hold, ltb-true, turned_over, both)
