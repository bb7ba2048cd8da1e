-- Each step keeps what the machine stands for, and so does each list of steps.
use Rattle.std.proofs.Common.{◌≡◌, ℕ, ◌<◌, ◌≤◌, true, ◌&&◌, List, [], length, Some, None, Option, refl, ap, arith}
use Rattle.std.proofs.lemmas.Grind.{common_steps}
use Rattle.std.proofs.lemmas.Bool.Decides.{nat_tests}
use Rattle.std.specs.Prelude.{nat_lt, nat_le, slice_set, option_map, unwrap_or}
use Rattle.std.proofs.lemmas.Bool.{ltb-true}
use Rattle.blsm_model.specs.Format.{callers, most_rows, most_turns}
use Rattle.blsm_model.specs.declared.key.Key.{Key}
use Rattle.blsm_model.specs.declared.row.Value.{Value}
use Rattle.blsm_model.specs.declared.op.Op.TheVariants.{Work}
use Rattle.blsm_model.specs.declared.history.Why.{Why}
use Rattle.blsm_model.specs.declared.history.Reply.{Reply}
use Rattle.blsm_model.specs.declared.history.Reply.TheVariants.{Did, Fault, Damaged, Stopped}
use Rattle.blsm_model.specs.Book.{counted_up}
use Rattle.blsm_model.specs.Geometry.{limits_of}
use Rattle.blsm_model.specs.Histories.{object_after, is_refusal}
use Rattle.blsm_model.specs.Legal.{MayReply, none_stopping, is_write, is_look}
use Rattle.blsm_model.proofs.HoldLemmas.{held-refusal, held-still}
use Rattle.tree_machine.specs.declared.step.Kind.{Kind}
use Rattle.tree_machine.specs.declared.step.Kind.TheVariants as kind
use Rattle.tree_machine.specs.Layers.{HasWay}
use Rattle.tree_machine.specs.Machine.{Machine, WorkSoFar, Turned, Failed, BadPage, no_work, work_of, is_caller}
use Rattle.tree_machine.specs.Moves.{note}
use Rattle.tree_machine.specs.Steps.{Outcome, reply_by, work_noted, work_reply, work_end, leave}
use Rattle.tree_machine.specs.Plays.{has_room, is_between, may_note, is_even, is_finished, may, stepped_as}
use Rattle.tree_machine.specs.Stands.{AreWorks, Stands, WritesFit, work_at, is_failing}
use Rattle.tree_machine.proofs.FoldLemmas.{both_hold}
use Rattle.tree_machine.proofs.ToldLemmas.{none_is_some, note_told}
use Rattle.tree_machine.proofs.StandLemmas.{entry_of, note_stands, quiet_ready, running_told, stopped_stands, hold_stands, next_stands, drop_stands, look_stands}
use Rattle.tree_machine.proofs.AdmitLemmas.{admit_stands}
use Rattle.tree_machine.proofs.TurnLemmas.{pay_stands, work_turn_stands, worker_turn_stands}

-- ---- the end of a work

recounted : (opening : List (Key × Value)) (m : Machine) (place quanta : ℕ) → Stands opening m → Stands opening (record m { book = counted_up m.book place quanta })
recounted opening m place quanta s = grind (arith, common_steps, nat_tests)

finished_few : (n : ℕ) (work : WorkSoFar) → is_finished n work ≡ true → work.turns ≤ n
finished_few n work is = grind (arith, common_steps, nat_tests)

pub work_end_stands : (opening : List (Key × Value)) (m : Machine) (seat n : ℕ) → Stands opening m → seat < callers → is_finished n (work_of seat m) ≡ true → Stands opening (work_end m seat n).state
work_end_stands opening m seat n stands within finished =
    recounted opening (note seat (Work n) (work_reply (work_of seat m) m.stopped) (work_noted seat no_work m)) (length m.book.entries) (work_of seat m).quanta
    (by (work_of seat m).last refl)
  where
    works : AreWorks (slice_set m.seats.work seat no_work) m.stopped m.book.entries
    works = grind (arith, common_steps, nat_tests)

    reset : Stands opening (work_noted seat no_work m)
    reset = grind (arith, common_steps, nat_tests)

    -- where this work failed, no other did
    alone : is_failing (work_of seat m).last ≡ true → (s : ℕ) → is_failing (work_at s (slice_set m.seats.work seat no_work)).last ≡ true → ⊥
    alone failed s fails = grind (arith, common_steps, nat_tests)

    failed : (reply : Reply) → is_failing (work_of seat m).last ≡ true → is_refusal reply ≡ true
        → (none_stopping m.book.entries ≡ true → MayReply (limits_of m.gears.sizes m.counts.charge) opening m.book.entries seat (Work n) reply)
        → ((why : Why) → Rattle.blsm_model.specs.Legal.NamesNoOther why reply) → Rattle.blsm_model.specs.Histories.counted (entry_of seat (Work n) reply) ≡ []
        → Stands opening (note seat (Work n) reply (work_noted seat no_work m))
    failed reply is refused may named uncounted =
        let first = stands.told.works.first seat is in
        note_stands opening (work_noted seat no_work m) seat (Work n) reply
        (quiet_ready opening (work_noted seat no_work m) (entry_of seat (Work n) reply) reset uncounted
        (λ s. held-refusal (object_after opening m.book.entries) (entry_of seat (Work n) reply) s refused))
        (note_told opening (work_noted seat no_work m) seat (Work n) reply reset.told (may first.1)
        (λ none. absurd (none_is_some m.stopped none first.0)) (λ why at. named why) (λ s fails. absurd (alone is s fails)))

    unfailed : (o : Option Why) → m.stopped ≡ o → Stands opening (note seat (Work n) (unwrap_or (option_map (λ why. Stopped why) o) (Did (work_of seat m).worked)) (work_noted seat no_work m))
    unfailed (Some why) is = stopped_stands opening (work_noted seat no_work m) seat (Work n) why reset is
    unfailed None is =
        note_stands opening (work_noted seat no_work m) seat (Work n) (Did (work_of seat m).worked)
        (quiet_ready opening (work_noted seat no_work m) (entry_of seat (Work n) (Did (work_of seat m).worked)) reset refl
        (λ s. held-still (object_after opening m.book.entries) (entry_of seat (Work n) (Did (work_of seat m).worked)) s refl))
        (running_told opening (work_noted seat no_work m) seat (Work n) (Did (work_of seat m).worked) reset.told is
        (reset.told.running is, ((work_of seat m).worked, omega (arith, stands.told.works.few seat, finished_few n (work_of seat m) finished), refl)) refl refl)

    by : (t : Turned) → (work_of seat m).last ≡ t
        → Stands opening (note seat (Work n) (reply_by t (unwrap_or (option_map (λ why. Stopped why) m.stopped) (Did (work_of seat m).worked))) (work_noted seat no_work m))
    by Failed is = failed Fault (ap is_failing is) refl (λ none. none) (λ why. tt) refl
    by (BadPage page) is = failed (Damaged page) (ap is_failing is) refl (λ none. none) (λ why. tt) refl
    by _ is = unfailed m.stopped refl

pub leave_stands : (opening : List (Key × Value)) (m : Machine) (seat : ℕ) → Stands opening m → Stands opening (leave m seat).state
leave_stands opening m seat s = grind (arith, common_steps, nat_tests)

-- ---- any step

caller_below : (seat : ℕ) → is_caller seat ≡ true → seat < callers
caller_below seat is = ltb-true seat callers is

noting_below : (m : Machine) (seat rows : ℕ) → may_note seat rows m ≡ true → seat < callers
noting_below m seat rows is = caller_below seat (both_hold (is_caller seat) (has_room m.book.room seat rows) (both_hold (is_caller seat && has_room m.book.room seat rows) (is_between seat m) is).0).0

-- each step that may be made keeps what the machine stands for: its answer is legal, its map that of the history
pub step_stands : (opening : List (Key × Value)) (m : Machine) (seat : ℕ) (k : Kind) (outcome : Outcome) → Stands opening m → may m seat k ≡ true → HasWay m → WritesFit k
    → Stands opening (stepped_as m seat k outcome).state
step_stands opening m seat (kind.Admit op) outcome stands ok way fit = admit_stands opening m seat op outcome stands way (both_hold (is_write op) (may_note seat 0 m) (both_hold (is_write op && may_note seat 0 m) (is_even seat m) ok).0).0 fit
step_stands opening m seat kind.Pay outcome stands ok way fit = pay_stands opening m seat outcome stands
step_stands opening m seat (kind.Look op) outcome stands ok way fit = look_stands opening m seat op outcome stands (both_hold (is_look op) (may_note seat 0 m) ok).0
step_stands opening m seat (kind.Hold low high) outcome stands ok way fit = hold_stands opening m seat low high outcome stands (noting_below m seat 0 ok)
step_stands opening m seat (kind.Next n) outcome stands ok way fit = next_stands opening m seat n outcome stands (noting_below m seat n (both_hold (may_note seat n m) (nat_lt 0 n) (both_hold (may_note seat n m && nat_lt 0 n) (nat_le n most_rows) ok).0).0)
step_stands opening m seat kind.Release outcome stands ok way fit = drop_stands opening m seat stands (noting_below m seat 0 ok)
step_stands opening m seat kind.WorkTurn outcome stands ok way fit = work_turn_stands opening m seat outcome stands way (caller_below seat (both_hold (is_caller seat) (nat_lt (work_of seat m).turns most_turns) (both_hold (is_caller seat && nat_lt (work_of seat m).turns most_turns) (is_even seat m) ok).0).0)
step_stands opening m seat (kind.WorkEnd n) outcome stands ok way fit =
    let parts = both_hold (is_caller seat && has_room m.book.room seat 0) (is_finished n (work_of seat m)) ok in
    work_end_stands opening m seat n stands (caller_below seat (both_hold (is_caller seat) (has_room m.book.room seat 0) parts.0).0) parts.1
step_stands opening m seat kind.WorkerTurn outcome stands ok way fit = worker_turn_stands opening m seat outcome stands way
step_stands opening m seat kind.Leave outcome stands ok way fit = leave_stands opening m seat stands
